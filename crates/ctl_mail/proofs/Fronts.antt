-- Going along a queue past the messages that are gone leads to the first that is left, which is the front of the changed mail.
use Rattle.std.proofs.Common.{nat_le, ◌≡◌, ◌≢◌, ◌⊎◌, inl, inr, ◌≤◌, ◌<◌, ◌+◌, ◌&&◌, ℕ, Bool, true, false, Option, None, Some, List, [], refl, sym, subst, ⊎_elim, length, Contains, IsTrue, filter, arith}
use Rattle.std.proofs.lemmas.Bool.Decides.{nat_tests}
use Rattle.ruby_value.specs.declared.message.Message.{Message}
use Rattle.ruby_value.specs.declared.message.MsgNo.{MsgNo}
use Rattle.stall_map.specs.declared.stalled.Stalled.{Stalled}
use Rattle.ruby_value.specs.Front as general
use Rattle.ruby_value.proofs.Fronts.{front-is}
use Rattle.msg_buffer.specs.Queue as queue
use Rattle.msg_buffer.specs.Prelude.{ComesBefore, is_after, next_after}
use Rattle.ctl_face.specs.Prelude.{Mail, incoming_message}
use Rattle.ctl_face.specs.Front as face
use Rattle.ctl_face.proofs.Held.{nothing-there}
use Rattle.ctl_mail.specs.Prelude.{IsAt, HasArrived, IsBack, IsEither, IsFirst, IsFree, IsLeast, IsLeftIn, waiting_after, Queues, queue_of, IsGone, IsOut, Reflects, Told}
use Rattle.ctl_mail.proofs.Leasts.{front-only, least-as, queue-least}
use Rattle.ctl_mail.proofs.Rises.{shorter}

module _ (messages : List Message) (cycle : ℕ) (Out : MsgNo → Type 0) where
  abbrev pub NoneBefore : Message → Type 0
  NoneBefore x = (m : Message) → IsLeftIn messages cycle Out m → ComesBefore m x → ⊥

  -- a place of the queue before which all are gone, or its end
  abbrev pub Reached : Option Message → Type 0
  Reached None = (m : Message) → IsLeftIn messages cycle Out m → ⊥
  Reached (Some x) = HasArrived messages cycle x × NoneBefore x

  has-arrived : (m : Message) → IsLeftIn messages cycle Out m → HasArrived messages cycle m
  has-arrived m left = record { held = left.held; arrived = left.arrived }

  reached-by : (o : Option Message) → IsLeast (HasArrived messages cycle) o → Reached o
  reached-by None is = λ m left. is m (has-arrived m left)
  reached-by (Some x) is = (is.one, λ m left. is.none_before m (has-arrived m left))

  pub reached-front : Reached (queue.front messages cycle)
  reached-front = reached-by (queue.front messages cycle) (queue-least messages cycle)

  tied-or-after : (x m : Message) → (ComesBefore m x → ⊥) → ((x.number.sender ≡ m.number.sender) × (x.number.count ≡ m.number.count)) ⊎ (is_after x.arrival x.number m ≡ true)
  tied-or-after x m not_before = grind (arith, nat_tests, not_before)

  number-is : (a b : MsgNo) → a.sender ≡ b.sender → a.count ≡ b.count → a ≡ b
  number-is a b s n = λ i. record { sender = s i; count = n i }

  passes : (x m : Message) → Out x.number → NoneBefore x → IsLeftIn messages cycle Out m → IsTrue (queue.is_ready cycle m && is_after x.arrival x.number m)
  passes x m gone none left =
      let arrived : m.arrival ≤ cycle = left.arrived in
      ⊎_elim
      (λ same. absurd (left.not_out (subst (Out) (number-is x.number m.number same.0 same.1) gone)))
      (λ (after : is_after x.arrival x.number m ≡ true). both m.arrival (is_after x.arrival x.number m) arrived after)
      (tied-or-after x m (none m left))
    where
      both : (a : ℕ) (b : Bool) → a ≤ cycle → b ≡ true → IsTrue (nat_le a cycle && b)
      both a b le is = grind (arith, nat_tests)

  parted : (x y : Message) → IsTrue (queue.is_ready cycle y && is_after x.arrival x.number y) → (y.arrival ≤ cycle) × (is_after x.arrival x.number y ≡ true)
  parted x y is = split (is_after x.arrival x.number y) is
    where
      split : (b : Bool) → IsTrue (nat_le y.arrival cycle && b) → (y.arrival ≤ cycle) × (b ≡ true)
      split b is = grind (arith, nat_tests)

  abbrev Tests : Message → Message → Bool
  Tests x m = queue.is_ready cycle m && is_after x.arrival x.number m

  next-by : (x : Message) (o : Option Message) → Out x.number → NoneBefore x
      → general.IsFront (Tests x) (λ (m : Message). m.arrival) (λ (m : Message). m.number) messages o → Reached o
  next-by x None gone none is = λ m left. is m left.held (passes x m gone none left)
  next-by x (Some y) gone none is = (
    record { held = is.held; arrived = (parted x y is.ready).0 },
    λ m left before. is.first m left.held (passes x m gone none left) before,
  )

  next-is : (x : Message) → general.IsFront (Tests x) (λ (m : Message). m.arrival) (λ (m : Message). m.number) messages (next_after messages cycle x.arrival x.number)
  next-is x = front-is (Tests x) (λ (m : Message). m.arrival) (λ (m : Message). m.number) messages

  pub reached-next : (x : Message) → Out x.number → Reached (Some x) → Reached (next_after messages cycle x.arrival x.number)
  reached-next x gone here = next-by x (next_after messages cycle x.arrival x.number) gone here.1 (next-is x)

  pub reached-left : (x : Message) → (Out x.number → ⊥) → Reached (Some x) → IsFirst (IsLeftIn messages cycle Out) x
  reached-left x stays here = record { one = record { held = here.0.held; arrived = here.0.arrived; not_out = stays }; none_before = here.1 }

-- how many come after a place
module _ (messages : List Message) where
  abbrev pub steps_from : Option Message → ℕ
  steps_from None = 0
  steps_from (Some x) = 1 + length (filter (is_after x.arrival x.number) messages)

  after-far : (x y m : Message) → is_after x.arrival x.number y ≡ true → is_after y.arrival y.number m ≡ true → is_after x.arrival x.number m ≡ true
  after-far x y m first second = grind (arith, nat_tests, first, second)

  not-itself : (y : Message) → is_after y.arrival y.number y ≡ false
  not-itself y = grind (arith, nat_tests)

  falls-by : (cycle : ℕ) (x : Message) (o : Option Message)
      → general.IsFront (λ m. queue.is_ready cycle m && is_after x.arrival x.number m) (λ (m : Message). m.arrival) (λ (m : Message). m.number) messages o
      → steps_from o < steps_from (Some x)
  falls-by cycle x None is = omega arith
  falls-by cycle x (Some y) is =
      let after : is_after x.arrival x.number y ≡ true = second (queue.is_ready cycle y) (is_after x.arrival x.number y) is.ready in
      let short : length (filter (is_after y.arrival y.number) messages) < length (filter (is_after x.arrival x.number) messages) =
      shorter (is_after x.arrival x.number) (is_after y.arrival y.number) (λ m. after-far x y m after) y after (not-itself y) messages is.held in
      omega arith
    where
      second : (a b : Bool) → IsTrue (a && b) → b ≡ true
      second true b is = is
      second false b is = absurd (cc is)

  pub falls : (cycle : ℕ) (x : Message) → steps_from (next_after messages cycle x.arrival x.number) < steps_from (Some x)
  falls cycle x =
      falls-by cycle x (next_after messages cycle x.arrival x.number)
      (front-is (λ m. queue.is_ready cycle m && is_after x.arrival x.number m) (λ (m : Message). m.arrival) (λ (m : Message). m.number) messages)

-- what is ready in a buffer, in its queue or stalled before the scan, is what is free in the changed inbox
module _ (queues : Queues) (stalled : List Stalled) (told : Told) (mail : Mail) (own : (buffer : ℕ) (m : Message) → Contains (queue_of queues buffer) m → m.buffer ≡ buffer) (reflects : Reflects queues stalled told mail.inbox) where
  none-by : (o : Option ℕ) → (o ≢ None → ⊥) → o ≡ None
  none-by None is = refl
  none-by (Some line) is = absurd (is (λ same. cc same))

  queued-free : (buffer : ℕ) (m : Message) → IsLeftIn (queue_of queues buffer) told.cycle (IsOut told) m → IsFree mail.inbox buffer told.cycle m
  queued-free buffer m left =
      let is : m.buffer ≡ buffer = own buffer m left.held in
      record {
        held = (reflects.left (incoming_message m) (λ _. left.arrived)).1 (record {
          before = None;
          held = subst (λ (b : ℕ). Contains (queue_of queues b) m) (sym is) left.held;
          now = none-by (waiting_after m.number told.moves None) (λ waits. left.not_out (inr waits));
          not_gone = λ gone. left.not_out (inl gone);
        });
        in_buffer = is;
        arrived = left.arrived;
      }

  back-free : (buffer : ℕ) (m : Message) → IsBack stalled told buffer m → IsFree mail.inbox buffer told.cycle m
  back-free buffer m back = record {
    held = (reflects.left (incoming_message m) (λ _. back.now.arrived)).1 (record {
      before = Some back.line;
      held = back.held;
      now = back.now.free.back;
      not_gone = back.now.free.not_gone;
    });
    in_buffer = back.now.in_buffer;
    arrived = back.now.arrived;
  }

  either-by : (buffer : ℕ) (m : Message) (before : Option ℕ) → m.buffer ≡ buffer → m.arrival ≤ told.cycle → IsAt queues stalled m before
      → waiting_after m.number told.moves before ≡ None → (IsGone told.acts m.number → ⊥) → IsEither queues stalled told buffer m
  either-by buffer m None in_buffer arrived held now stays = inl (record {
    held = subst (λ (b : ℕ). Contains (queue_of queues b) m) in_buffer held;
    arrived = arrived;
    not_out = λ out. ⊎_elim stays (λ waits. waits now) out;
  })
  either-by buffer m (Some line) in_buffer arrived held now stays = inr (record {
    line = line;
    held = held;
    now = record { in_buffer = in_buffer; arrived = arrived; free = record { back = now; not_gone = stays } };
  })

  either-free : (buffer : ℕ) (m : Message) → IsEither queues stalled told buffer m → IsFree mail.inbox buffer told.cycle m
  either-free buffer m is = ⊎_elim (queued-free buffer m) (back-free buffer m) is

  free-either : (buffer : ℕ) (m : Message) → IsFree mail.inbox buffer told.cycle m → IsEither queues stalled told buffer m
  free-either buffer m free =
      let l = (reflects.left (incoming_message m) (λ _. free.arrived)).0 free.held in
      either-by buffer m l.before free.in_buffer free.arrived l.held l.now l.not_gone

  pub front-either : (buffer : ℕ) (o : Option Message) → IsLeast (IsEither queues stalled told buffer) o → face.front mail buffer told.cycle ≡ o
  front-either buffer o is =
      front-only mail buffer told.cycle o reflects.ascends
      (least-as (IsEither queues stalled told buffer) (IsFree mail.inbox buffer told.cycle) (either-free buffer) (free-either buffer) o is)

pub none-left : (cycle : ℕ) (Out : MsgNo → Type 0) (m : Message) → IsLeftIn [] cycle Out m → ⊥
none-left cycle Out m left = nothing-there m left.held
