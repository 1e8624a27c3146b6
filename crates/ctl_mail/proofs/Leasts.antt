-- The front of a buffer is the first of its free messages, and there is one such message alone.
use Rattle.std.proofs.Common.{◌≡◌, ◌≤◌, ℕ, Option, None, Some, List, refl, sym, subst, ap, Contains, IsTrue, arith}
use Rattle.std.proofs.lemmas.Bool.Decides.{nat_tests}
use Rattle.ruby_value.specs.declared.message.Message.{Message}
use Rattle.ruby_value.proofs.Fronts.{front-is}
use Rattle.stall_map.specs.declared.stalled.Stalled.{Stalled}
use Rattle.ctl_face.specs.Prelude.{InboxMessage, Mail, NumbersAscend, incoming_message}
use Rattle.ctl_face.specs.Front as face
use Rattle.ctl_face.proofs.Fronts.{front_first}
use Rattle.msg_buffer.specs.Queue as queue
use Rattle.msg_buffer.specs.Prelude.{ComesBefore}
use Rattle.ctl_mail.specs.Prelude.{Holds, inbox_of, HasArrived, IsFree, IsLeast, Queues, queue_of}
use Rattle.ctl_mail.proofs.Inboxes.{inbox-ascends, inbox-has, one-of-ascending}

-- two of which neither comes before the other have one number
tied-parts : (a b : Message) → (ComesBefore a b → ⊥) → (ComesBefore b a → ⊥) → (a.number.sender ≡ b.number.sender) × (a.number.count ≡ b.number.count)
tied-parts a b not_ab not_ba = grind (arith, not_ab, not_ba)

tied : (a b : Message) → (ComesBefore a b → ⊥) → (ComesBefore b a → ⊥) → a.number ≡ b.number
tied a b not_ab not_ba = let so = tied-parts a b not_ab not_ba in λ i. record { sender = so.0 i; count = so.1 i }

pub one-least : (P : Message → Type 0) → ((a b : Message) → P a → P b → a.number ≡ b.number → a ≡ b)
    → (o p : Option Message) → IsLeast P o → IsLeast P p → o ≡ p
one-least P one None None first second = refl
one-least P one None (Some m) first second = absurd (first m second.one)
one-least P one (Some m) None first second = absurd (second m first.one)
one-least P one (Some a) (Some b) first second =
    ap Some (one a b first.one second.one (tied a b (second.none_before a first.one) (first.none_before b second.one)))

-- the first of as many
pub least-as : (P Q : Message → Type 0) → ((m : Message) → P m → Q m) → ((m : Message) → Q m → P m) → (o : Option Message) → IsLeast P o → IsLeast Q o
least-as P Q to back None is = λ m has. is m (back m has)
least-as P Q to back (Some m) is = record { one = to m is.one; none_before = λ other has. is.none_before other (back other has) }

module _ (inbox : List InboxMessage) (buffer now : ℕ) where
  ready-from : (m : Message) → IsFree inbox buffer now m → IsTrue (face.is_ready buffer now (incoming_message m))
  ready-from m free = grind (arith, nat_tests, free.in_buffer, free.arrived)

  ready-to : (m : Message) → IsTrue (face.is_ready buffer now (incoming_message m)) → (m.buffer ≡ buffer) × (m.arrival ≤ now)
  ready-to m ready = grind (arith, nat_tests, ready)

  pub front-least : (o : Option Message) → face.IsFront inbox buffer now o → IsLeast (IsFree inbox buffer now) o
  front-least None is = λ m free. is (incoming_message m) free.held (ready-from m free)
  front-least (Some m) is =
      let so = ready-to m is.ready in
      record {
        one = record { held = is.held; in_buffer = so.0; arrived = so.1 };
        none_before = λ other free before. is.first (incoming_message other) free.held (ready-from other free) before;
      }

  one-free : NumbersAscend inbox → (a b : Message) → IsFree inbox buffer now a → IsFree inbox buffer now b → a.number ≡ b.number → a ≡ b
  one-free ascends a b free_a free_b same =
      ap (λ (o : InboxMessage). o.message) (one-of-ascending inbox ascends (incoming_message a) (incoming_message b) free_a.held free_b.held same)

-- what comes first of the free messages is the front
pub front-only : (mail : Mail) (buffer now : ℕ) (o : Option Message) → NumbersAscend mail.inbox → IsLeast (IsFree mail.inbox buffer now) o → face.front mail buffer now ≡ o
front-only mail buffer now o ascends is =
    one-least (IsFree mail.inbox buffer now) (one-free mail.inbox buffer now ascends) (face.front mail buffer now) o
    (front-least mail.inbox buffer now (face.front mail buffer now) (front_first mail buffer now)) is

-- the front of a queue
module _ (messages : List Message) (now : ℕ) where
  arrived-from : (m : Message) → m.arrival ≤ now → IsTrue (queue.is_ready now m)
  arrived-from m is = grind (arith, nat_tests, is)

  arrived-to : (m : Message) → IsTrue (queue.is_ready now m) → m.arrival ≤ now
  arrived-to m is = grind (arith, nat_tests, is)

  by-front : (o : Option Message) → queue.IsFront messages now o → IsLeast (HasArrived messages now) o
  by-front None is = λ m has. is m has.held (arrived-from m has.arrived)
  by-front (Some m) is = record {
    one = record { held = is.held; arrived = arrived-to m is.ready };
    none_before = λ other has before. is.first other has.held (arrived-from other has.arrived) before;
  }

  pub queue-least : IsLeast (HasArrived messages now) (queue.front messages now)
  queue-least = by-front (queue.front messages now) (front-is (queue.is_ready now) (λ (m : Message). m.arrival) (λ (m : Message). m.number) messages)

-- what is free in the inbox that queues and stalled messages make is in the buffer's queue
module _ (queues : Queues) (stalled : List Stalled) (holds : Holds queues stalled) where
  pub free-queued : (buffer now : ℕ) (m : Message) → IsFree (inbox_of queues stalled) buffer now m → HasArrived (queue_of queues buffer) now m
  free-queued buffer now m free = record {
    held = subst (λ (b : ℕ). Contains (queue_of queues b) m) free.in_buffer ((inbox-has queues stalled holds (incoming_message m)).0 free.held);
    arrived = free.arrived;
  }

  pub queued-free : (buffer now : ℕ) (m : Message) → HasArrived (queue_of queues buffer) now m → IsFree (inbox_of queues stalled) buffer now m
  queued-free buffer now m has =
      let own : m.buffer ≡ buffer = holds.own_buffer buffer m has.held in
      record {
        held = (inbox-has queues stalled holds (incoming_message m)).1 (subst (λ (b : ℕ). Contains (queue_of queues b) m) (sym own) has.held);
        in_buffer = own;
        arrived = has.arrived;
      }

  pub front-of-queue : (mail : Mail) (buffer now : ℕ) → mail.inbox ≡ inbox_of queues stalled → face.front mail buffer now ≡ queue.front (queue_of queues buffer) now
  front-of-queue mail buffer now is =
      front-only mail buffer now (queue.front (queue_of queues buffer) now)
      (subst NumbersAscend (sym is) (inbox-ascends queues stalled))
      (subst (λ xs. IsLeast (IsFree xs buffer now) (queue.front (queue_of queues buffer) now)) (sym is)
      (least-as (HasArrived (queue_of queues buffer) now) (IsFree (inbox_of queues stalled) buffer now) (queued-free buffer now) (free-queued buffer now)
      (queue.front (queue_of queues buffer) now) (queue-least (queue_of queues buffer) now)))
