-- A message of the mail is found by its buffer and its number.
use Rattle.std.proofs.Common.{◌≡◌, ◌==◌, ℕ, Bool, true, false, Option, None, Some, List, [], ◌∷◌, cond, refl, sym, ap, subst, ◌∙◌, ⊎_elim, Contains, IsSome, eq-eqb, eqb-true}
use Rattle.std.specs.List.{find}
use Rattle.std.specs.Option.{option_map}
use Rattle.std.proofs.lemmas.Bool.{and_from, and_parts}
use Rattle.ruby_value.specs.declared.message.Message.{Message}
use Rattle.ruby_value.specs.declared.message.MsgNo.{MsgNo}
use Rattle.ruby_value.specs.Prelude.{same_number}
use Rattle.ruby_value.proofs.Contained.{Contains-cons_cases}
use Rattle.stall_map.specs.declared.stalled.Stalled.{Stalled}
use Rattle.ctl_face.specs.declared.message_at.MessageAt.{MessageAt}
use Rattle.ctl_face.specs.Prelude.{InboxMessage, NumbersAscend, is_at, incoming_message}
use Rattle.ctl_face.proofs.Held.{at-head, in-rest, nothing-there}
use Rattle.ctl_mail.specs.Prelude.{Has, Holds, IsBack, IsEither, IsLeftIn, IsOut, Queues, Told, inbox_of, queue_of}
use Rattle.ctl_mail.proofs.Inboxes.{differ-test, inbox-ascends, inbox-has, one-of-ascending, same-or-not, same-test}

module _ {X : Type 0} (p : X → Bool) where
  found-by : (y x : X) (ys : List X) (b : Bool) → p y ≡ b → cond b (Some y) (find p ys) ≡ Some x → (find p ys ≡ Some x → Contains ys x × (p x ≡ true)) → Contains (y ∷ ys) x × (p x ≡ true)
  found-by y x ys true is found rest = let same : y ≡ x = cc in (subst (Contains (y ∷ ys)) same (at-head y ys), subst (λ z. p z ≡ true) same is)
  found-by y x ys false is found rest = let so = rest found in (in-rest y x ys so.0, so.1)

  -- what is found is there, and passes
  pub found-in : (xs : List X) (x : X) → find p xs ≡ Some x → Contains xs x × (p x ≡ true)
  found-in [] x found = absurd (cc)
  found-in (y ∷ ys) x found = found-by y x ys (p y) refl found (found-in ys x)

  not-by : (y x : X) (ys : List X) (b : Bool) → p y ≡ b → cond b (Some y) (find p ys) ≡ None → Contains (y ∷ ys) x → p x ≡ true → (find p ys ≡ None → Contains ys x → ⊥) → ⊥
  not-by y x ys true is none has passes rest = absurd (cc)
  not-by y x ys false is none has passes rest =
      ⊎_elim (λ same. let so : p x ≡ false = subst (λ z. p z ≡ false) same is in absurd (cc (so, passes))) (rest none) (Contains-cons_cases y x ys has)

  -- where nothing is found, nothing there passes
  pub none-found : (xs : List X) → find p xs ≡ None → (x : X) → Contains xs x → p x ≡ true → ⊥
  none-found [] none x has passes = nothing-there x has
  none-found (y ∷ ys) none x has passes = not-by y x ys (p y) refl none has passes (λ so there. none-found ys so x there passes)

pub numbers-same : (a b : MsgNo) → same_number a b ≡ true → a ≡ b
numbers-same a b is =
    ⊎_elim (λ same. same) (λ apart. let so : same_number a b ≡ false = differ-test a b apart in absurd (cc (is, so))) (same-or-not a b)

-- of messages whose numbers ascend, the one that is at a place is found
module _ (at : MessageAt) where
  number-at : (o : InboxMessage) → is_at at o ≡ true → o.message.number ≡ at.number
  number-at o is = numbers-same o.message.number at.number (and_parts (same_number o.message.number at.number) (o.message.buffer == at.buffer) is).0

  pub is-at : (o : InboxMessage) → o.message.number ≡ at.number → o.message.buffer ≡ at.buffer → is_at at o ≡ true
  is-at o number buffer = and_from (same_number o.message.number at.number) (o.message.buffer == at.buffer) (same-test o.message.number at.number number) (eq-eqb o.message.buffer at.buffer buffer)

  found-one : (xs : List InboxMessage) (o : InboxMessage) → NumbersAscend xs → Contains xs o → is_at at o ≡ true → (f : Option InboxMessage) → find (is_at at) xs ≡ f → f ≡ Some o
  found-one xs o ascends has is None found = absurd (none-found (is_at at) xs found o has is)
  found-one xs o ascends has is (Some p) found =
      let there = found-in (is_at at) xs p found in
      ap (λ (x : InboxMessage). Some x) (one-of-ascending xs ascends p o there.0 has (number-at p there.1 ∙ sym (number-at o is)))

  abbrev Found : Queues → List Stalled → Option Message
  Found queues stalled = option_map (λ (o : InboxMessage). o.message) (find (is_at at) (inbox_of queues stalled))

  module _ (queues : Queues) (stalled : List Stalled) (holds : Holds queues stalled) where
    pub located : (o : InboxMessage) → Has queues stalled o → o.message.number ≡ at.number → o.message.buffer ≡ at.buffer → Found queues stalled ≡ Some o.message
    located o has number buffer =
        ap (option_map (λ (x : InboxMessage). x.message))
        (found-one (inbox_of queues stalled) o (inbox-ascends queues stalled) ((inbox-has queues stalled holds o).1 has) (is-at o number buffer)
        (find (is_at at) (inbox_of queues stalled)) refl)

    -- in a queue
    pub located-queued : (m : Message) → Contains (queue_of queues at.buffer) m → m.number ≡ at.number → Found queues stalled ≡ Some m
    located-queued m has number =
        let own : m.buffer ≡ at.buffer = holds.own_buffer at.buffer m has in
        located (incoming_message m) (subst (λ b. Contains (queue_of queues b) m) (sym own) has) number own

    pub located-found : (m : Message) → find (λ (x : Message). same_number x.number at.number) (queue_of queues at.buffer) ≡ Some m → Found queues stalled ≡ Some m
    located-found m found =
        let there = found-in (λ (x : Message). same_number x.number at.number) (queue_of queues at.buffer) m found in
        located-queued m there.0 (numbers-same m.number at.number there.1)

    -- of what is at a place
    held-at : (f : Option InboxMessage) → find (is_at at) (inbox_of queues stalled) ≡ f → IsSome (option_map (λ (o : InboxMessage). o.message) f)
        → (o : InboxMessage) × Has queues stalled o × (o.message.number ≡ at.number) × (o.message.buffer ≡ at.buffer)
    held-at None found some = absurd (cc some)
    held-at (Some o) found some =
        let there = found-in (is_at at) (inbox_of queues stalled) o found in (
          o,
          (inbox-has queues stalled holds o).0 there.0,
          number-at o there.1,
          eqb-true o.message.buffer at.buffer (and_parts (same_number o.message.number at.number) (o.message.buffer == at.buffer) there.1).1,
        )

    module _ (some : IsSome (Found queues stalled)) (none : find (λ (m : Message). same_number m.number at.number) (queue_of queues at.buffer) ≡ None) where
      waits : (waiting : Option ℕ) (m : Message) → Has queues stalled (record { message = m; waiting = waiting }) → m.number ≡ at.number → m.buffer ≡ at.buffer
          → (line : ℕ) × Contains stalled (record { line = line; message = m })
      waits None m has number buffer =
          absurd (none-found (λ (x : Message). same_number x.number at.number) (queue_of queues at.buffer) none m
          (subst (λ b. Contains (queue_of queues b) m) buffer has) (same-test m.number at.number number))
      waits (Some line) m has number buffer = (line, has)

      it-waits : (m : Message) × (line : ℕ) × Contains stalled (record { line = line; message = m }) × (m.number ≡ at.number) × (m.buffer ≡ at.buffer)
      it-waits =
          let it = held-at (find (is_at at) (inbox_of queues stalled)) refl some in
          let so = waits it.0.waiting it.0.message it.1 it.2 it.3 in
          (it.0.message, so.0, so.1, it.2, it.3)

      -- what isn't in its queue waits
      pub located-stalled : (s : Stalled) → find (λ (x : Stalled). same_number x.message.number at.number) stalled ≡ Some s → Found queues stalled ≡ Some s.message
      located-stalled s found =
          let there = found-in (λ (x : Stalled). same_number x.message.number at.number) stalled s found in
          let number : s.message.number ≡ at.number = numbers-same s.message.number at.number there.1 in
          let it = it-waits in
          let same = holds.one (record { message = s.message; waiting = Some s.line }) (record { message = it.0; waiting = Some it.1 }) there.0 it.2 (number ∙ sym it.3) in
          located (record { message = s.message; waiting = Some s.line }) there.0 number (ap (λ (o : InboxMessage). o.message.buffer) same ∙ it.4)

      pub never-lost : find (λ (x : Stalled). same_number x.message.number at.number) stalled ≡ None → ⊥
      never-lost none_there =
          let it = it-waits in
          none-found (λ (x : Stalled). same_number x.message.number at.number) stalled none_there (record { line = it.1; message = it.0 }) it.2 (same-test it.0.number at.number it.3)

-- what is found in the queue of a buffer
pub in-queue : (queues same : Queues) (at : MessageAt) (found o : Option Message) → queues ≡ same → found ≡ find (λ (m : Message). same_number m.number at.number) (queue_of queues at.buffer) → found ≡ o
    → find (λ (m : Message). same_number m.number at.number) (queue_of same at.buffer) ≡ o
in-queue queues same at found o is finds what =
    subst (λ (xs : Queues). find (λ (m : Message). same_number m.number at.number) (queue_of xs at.buffer) ≡ o) is (sym finds ∙ what)

-- the front of a buffer, which its queue has or which was stalled before the scan
pub located-front : (queues : Queues) (stalled : List Stalled) → Holds queues stalled → (told : Told) (buffer : ℕ) (m : Message) → IsEither queues stalled told buffer m
    → Found (record { buffer = buffer; number = m.number }) queues stalled ≡ Some m
located-front queues stalled holds told buffer m is =
    let at : MessageAt = record { buffer = buffer; number = m.number } in
    ⊎_elim
    (λ (left : IsLeftIn (queue_of queues buffer) told.cycle (IsOut told) m). located-queued at queues stalled holds m left.held refl)
    (λ (back : IsBack stalled told buffer m). located at queues stalled holds (record { message = m; waiting = Some back.line }) back.held refl back.now.in_buffer)
    is
