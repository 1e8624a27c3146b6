-- The front of a buffer is a ready message before which no other ready one comes.
use Rattle.std.proofs.Common.{◌≡◌, ◌&&◌, ◌==◌, ℕ, true, Option, None, Some, List, nat_le, is_none, IsTrue, refl, subst}
use Rattle.std.specs.Option.{option_map}
use Rattle.std.proofs.lemmas.Bool.{and_parts}
use Rattle.ruby_value.specs.Front as general
use Rattle.ruby_value.proofs.Fronts.{front-is}
use Rattle.ctl_face.specs.Prelude.{InboxMessage, Mail, is_ready, front, IsFront, incoming_message}

none_is : {X : Type 0} (o : Option X) → is_none o ≡ true → o ≡ None
none_is None is = refl
none_is (Some x) is = absurd (cc is)

-- a ready message isn't stalled, so it is as it came in
as_incoming : (buffer now : ℕ) (m : InboxMessage) → IsTrue (is_ready buffer now m) → m ≡ incoming_message m.message
as_incoming buffer now m ready =
    let free = none_is m.waiting (and_parts (m.message.buffer == buffer && nat_le m.message.arrival now) (is_none m.waiting) ready).1 in
    λ i. record { message = m.message; waiting = free i }

module _ (buffer now : ℕ) where
  abbrev Fronts : List InboxMessage → Option InboxMessage → Type 0
  Fronts inbox o =
      general.IsFront (is_ready buffer now) (λ (m : InboxMessage). m.message.arrival) (λ (m : InboxMessage). m.message.number) inbox o

  its_message : (inbox : List InboxMessage) (o : Option InboxMessage) → Fronts inbox o
      → IsFront inbox buffer now (option_map (λ (m : InboxMessage). m.message) o)
  its_message inbox None is = is
  its_message inbox (Some m) is = subst (λ n. Fronts inbox (Some n)) (as_incoming buffer now m is.ready) is

pub front_first : (mail : Mail) (buffer now : ℕ) → IsFront mail.inbox buffer now (front mail buffer now)
front_first mail buffer now =
    let arrival = λ (m : InboxMessage). m.message.arrival in
    let number = λ (m : InboxMessage). m.message.number in
    its_message buffer now mail.inbox (general.front (is_ready buffer now) arrival number mail.inbox)
    (front-is (is_ready buffer now) arrival number mail.inbox)
