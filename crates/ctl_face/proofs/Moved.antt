-- No message is lost or made but by sending and consuming: what each act makes of the numbers in an inbox.
use Rattle.std.proofs.Common.{◌≡◌, ◌<◌, ◌+◌, ℕ, ℤ, Bool, true, false, cond, eqb, not, List, [], ◌∷◌, ◌++◌, map, filter, length, All, Contains, refl, sym, ap, subst, ◌∙◌, arith, ⊎_elim, Option, None, Some, Ok, Err, nat_abs, is_some, slice_get, unwrap_or}
use Rattle.std.specs.Prelude.{count_by}
use Rattle.std.proofs.lemmas.Bool.{and_from, cases_eq, cond_both, eq-eqb, eqb-true, and_parts}
use Rattle.std.proofs.lemmas.Bool.Decides.{nat_tests}
use Rattle.std.proofs.lemmas.List.{map-append}
use Rattle.std.proofs.lemmas.List.Elements.{All-head, All-tail, All-weaker, filter-append}
use Rattle.std.proofs.lemmas.List.Sums.{sum_by-append, sum_by-cons}
use Rattle.std.specs.Bool.{nat_lt}
use Rattle.std.specs.List.{fold, list_all}
use Rattle.ruby_value.specs.declared.fault.Fault.TheVariants.{Latency, Route, Copies}
use Rattle.ruby_value.specs.declared.message.Message.{Message}
use Rattle.ruby_value.specs.declared.message.MsgNo.{MsgNo}
use Rattle.ruby_value.specs.declared.setup.BufferPlace.{BufferPlace}
use Rattle.ruby_value.specs.declared.setup.BufferPlace.TheVariants as place
use Rattle.ruby_value.specs.declared.setup.BufferSetup.{BufferSetup}
use Rattle.ruby_value.specs.declared.setup.MachineSetup.{MachineSetup}
use Rattle.ruby_value.specs.declared.value.Value.{Value}
use Rattle.ruby_value.specs.Prelude.{number_before, same_number}
use Rattle.ruby_value.proofs.Contained.{Contains-cons_cases}
use Rattle.ruby_value.proofs.Ordered.{AllPairs-head, AllPairs-tail}
use Rattle.ruby_value.specs.declared.message.Delivery.{Delivery}
use Rattle.ctl_face.specs.Prelude.{numbers_in, InboxMessage, Mail, for_others, NumbersAscend, without_message, is_latency, Actor, incoming_message, mail_with_delivery, receiving_buffer, Sending, copy_limit, local_arrival, local_copy, mail_with_copy, network_arrival, next_copy, no_copies, receivers_of, send, sending_from, sending_on, with_network_copy}
use Rattle.ctl_face.specs.Inbox.{with_message}
use Rattle.ctl_face.proofs.Cases.{Good, good_ok, good_unless}
use Rattle.ctl_face.proofs.Held.{nothing-there}
use Rattle.ctl_face.proofs.Inboxes.{Before, KeepsNumber, all-with}

-- a change of some messages that leaves their numbers
pub numbers-kept : (test : InboxMessage → Bool) (change : InboxMessage → InboxMessage) → KeepsNumber change → (inbox : List InboxMessage) → numbers_in (map (λ (o : InboxMessage). cond (test o) (change o) o) inbox) ≡ numbers_in inbox
numbers-kept test change keeps [] = refl
numbers-kept test change keeps (o ∷ inbox) =
    let P : InboxMessage → Type 0 = λ x. x.message.number ≡ o.message.number in
    ap (λ (n : MsgNo). n ∷ numbers_in (map (λ (x : InboxMessage). cond (test x) (change x) x) inbox)) (cond_both (test o) (change o) o P (λ _. keeps o) (λ _. refl))
    ∙ ap (λ (ns : List MsgNo). o.message.number ∷ ns) (numbers-kept test change keeps inbox)

same-refl : (a : MsgNo) → same_number a a ≡ true
same-refl a = and_from (eqb a.sender a.sender) (eqb a.count a.count) (eq-eqb a.sender a.sender refl) (eq-eqb a.count a.count refl)

number-is : (a b : MsgNo) → same_number a b ≡ true → a ≡ b
number-is a b same =
    let parts = and_parts (eqb a.sender b.sender) (eqb a.count b.count) same in
    let sender = eqb-true a.sender b.sender parts.0 in
    let count = eqb-true a.count b.count parts.1 in
    λ i. record { sender = sender i; count = count i }

not-same : (a b : MsgNo) → number_before a b ≡ true → same_number b a ≡ false
not-same a b before = grind (arith, nat_tests, before)

-- a number that isn't among its sender's later ones comes before or after each
apart_own : (a b : MsgNo) → a.sender ≡ b.sender → a.count < b.count → number_before b a ≡ not (number_before a b)
apart_own a b same below = grind (arith, nat_tests, same, below)

apart_other : (a b : MsgNo) → (a.sender ≡ b.sender → ⊥) → number_before b a ≡ not (number_before a b)
apart_other a b other = grind (arith, nat_tests, other)

apart : (a b : MsgNo) → (a.sender ≡ b.sender → a.count < b.count) → number_before b a ≡ not (number_before a b)
apart a b below = ⊎_elim (λ same. apart_own a b same (below same)) (λ other. apart_other a b other) (cases_eq a.sender b.sender)

none-dropped : (n : MsgNo) (inbox : List InboxMessage) → All (λ (o : InboxMessage). same_number o.message.number n ≡ false) inbox → without_message inbox n ≡ inbox
none-dropped n [] all = refl
none-dropped n (o ∷ inbox) all =
    let P : InboxMessage → Type 0 = λ x. same_number x.message.number n ≡ false in
    rw (All-head P o inbox all) (ap (λ (xs : List InboxMessage). o ∷ xs) (none-dropped n inbox (All-tail P o inbox all)))

module _ (f : MsgNo → Bool) where
  abbrev pub one : MsgNo → ℕ
  one n = cond (f n) 1 0

  abbrev pub held : List InboxMessage → ℕ
  held inbox = count_by f (numbers_in inbox)

  held-cons : (o : InboxMessage) (inbox : List InboxMessage) → held (o ∷ inbox) ≡ one o.message.number + held inbox
  held-cons o inbox = sum_by-cons one o.message.number (numbers_in inbox)

  pub single : (n : MsgNo) → count_by f (n ∷ []) ≡ one n
  single n = sum_by-cons one n [] ∙ (let none : one n + 0 ≡ one n = omega arith in none)

  held-append : (xs ys : List InboxMessage) → held (xs ++ ys) ≡ held xs + held ys
  held-append xs ys = ap (count_by f) (map-append (λ (o : InboxMessage). o.message.number) xs ys) ∙ sum_by-append one (numbers_in xs) (numbers_in ys)

  -- a message of the inbox goes out of it
  pub taken : (inbox : List InboxMessage) (m : InboxMessage) → NumbersAscend inbox → Contains inbox m → held inbox ≡ one m.message.number + held (without_message inbox m.message.number)
  taken [] m ascends has = absurd (nothing-there m has)
  taken (o ∷ inbox) m ascends has =
      let n = m.message.number in
      elim (same_number o.message.number n) as (λ b. same_number o.message.number n ≡ b → held (o ∷ inbox) ≡ one n + held (cond (not b) (o ∷ without_message inbox n) (without_message inbox n))) [
        | true ↦ λ is.
            let same : o.message.number ≡ n = number-is o.message.number n is in
            let later = AllPairs-head Before o inbox ascends in
            let apart_all = All-weaker (Before o) (λ (x : InboxMessage). same_number x.message.number n ≡ false) (λ x before. subst (λ (k : MsgNo). same_number x.message.number k ≡ false) same (not-same o.message.number x.message.number before)) inbox later in
            held-cons o inbox ∙ ap (λ (k : MsgNo). one k + held inbox) same ∙ ap (λ (xs : List InboxMessage). one n + held xs) (sym (none-dropped n inbox apart_all))
        | false ↦ λ is.
            let there : Contains inbox m = ⊎_elim (λ same. let so : same_number n n ≡ false = subst (λ (x : InboxMessage). same_number x.message.number n ≡ false) same is in absurd (cc (so, same-refl n))) (λ rest. rest) (Contains-cons_cases o m inbox has) in
            let rest = taken inbox m (AllPairs-tail Before o inbox ascends) there in
            let here = held-cons o inbox in
            let kept = held-cons o (without_message inbox n) in
            omega arith
      ] refl

  parts : (p q : InboxMessage → Bool) (inbox : List InboxMessage) → All (λ o. q o ≡ not (p o)) inbox → held (filter p inbox) + held (filter q inbox) ≡ held inbox
  parts p q [] all = omega arith
  parts p q (o ∷ inbox) all =
      let P : InboxMessage → Type 0 = λ x. q x ≡ not (p x) in
      let rest = parts p q inbox (All-tail P o inbox all) in
      let here = held-cons o inbox in
      rw (All-head P o inbox all)
      (elim (p o) as (λ b. held (cond b (o ∷ filter p inbox) (filter p inbox)) + held (cond (not b) (o ∷ filter q inbox) (filter q inbox)) ≡ held (o ∷ inbox)) [
        | true ↦ let there = held-cons o (filter p inbox) in omega arith
        | false ↦ let there = held-cons o (filter q inbox) in omega arith
      ])

  -- a message comes in whose number is apart from the others
  pub put : (inbox : List InboxMessage) (m : InboxMessage) → All (λ (o : InboxMessage). number_before m.message.number o.message.number ≡ not (number_before o.message.number m.message.number)) inbox
      → held (with_message inbox m) ≡ one m.message.number + held inbox
  put inbox m all =
      let p = λ (o : InboxMessage). number_before o.message.number m.message.number in
      let q = λ (o : InboxMessage). number_before m.message.number o.message.number in
      let whole = held-append (filter p inbox) (m ∷ filter q inbox) in
      let middle = held-cons m (filter q inbox) in
      let both = parts p q inbox all in
      omega arith

  abbrev pub numbers_of : List (Delivery Message) → ℕ
  numbers_of copies = count_by f (map (λ (c : Delivery Message). c.message.number) copies)

  copies-append : (xs ys : List (Delivery Message)) → numbers_of (xs ++ ys) ≡ numbers_of xs + numbers_of ys
  copies-append xs ys = ap (count_by f) (map-append (λ (c : Delivery Message). c.message.number) xs ys) ∙ sum_by-append one (map (λ (c : Delivery Message). c.message.number) xs) (map (λ (c : Delivery Message). c.message.number) ys)

-- the controller's own messages have numbers that it has given
abbrev pub OwnBelow : ℕ → Mail → Type 0
OwnBelow me mail = All (λ (o : InboxMessage). o.message.number.sender ≡ me → o.message.number.count < mail.sent) mail.inbox

module _ (actor : Actor) (start : Mail) where
  pub record Moved (s : Sending) : Type 0 where
    pub moved : (f : MsgNo → Bool) → count_by f (numbers_in start.inbox) + numbers_of f s.copies ≡ numbers_of f (for_others actor.me s.copies) + count_by f (numbers_in s.mail.inbox)
    pub below : OwnBelow actor.me s.mail

  one_in : (f : MsgNo → Bool) (b : Bool) (mail : Mail) (c : Delivery Message) → c.message.number ≡ record { sender = actor.me; count = mail.sent } → OwnBelow actor.me mail
      → numbers_of f (cond (not b) (c ∷ []) []) + count_by f (numbers_in (mail_with_delivery b mail c.message).inbox) ≡ one f c.message.number + count_by f (numbers_in mail.inbox)
  one_in f true mail c is below =
      let all = All-weaker (λ (o : InboxMessage). o.message.number.sender ≡ actor.me → o.message.number.count < mail.sent) (λ (o : InboxMessage). number_before c.message.number o.message.number ≡ not (number_before o.message.number c.message.number))
      (λ o low. rw is (apart o.message.number (record { sender = actor.me; count = mail.sent }) low)) mail.inbox below in
      let inside = put f mail.inbox (incoming_message c.message) all in
      omega arith
  one_in f false mail c is below = ap (λ (k : ℕ). k + count_by f (numbers_in mail.inbox)) (single f c.message.number)

  below_in : (b : Bool) (mail : Mail) (m : Message) → m.number ≡ record { sender = actor.me; count = mail.sent } → OwnBelow actor.me mail
      → All (λ (o : InboxMessage). o.message.number.sender ≡ actor.me → o.message.number.count < mail.sent + 1) (mail_with_delivery b mail m).inbox
  below_in b mail m is below =
      let P : InboxMessage → Type 0 = λ o. o.message.number.sender ≡ actor.me → o.message.number.count < mail.sent + 1 in
      let older = All-weaker (λ (o : InboxMessage). o.message.number.sender ≡ actor.me → o.message.number.count < mail.sent) P (λ o low own. let before = low own in omega arith) mail.inbox below in
      elim b as (λ d. All P (mail_with_delivery d mail m).inbox) [
        | true ↦ all-with P mail.inbox (incoming_message m) older (λ own. let count : m.number.count ≡ mail.sent = ap (λ (n : MsgNo). n.count) is in omega arith)
        | false ↦ older
      ]

  copy_moved : (s : Sending) (c : Delivery Message) → c.message.number ≡ record { sender = actor.me; count = s.mail.sent } → Moved s → Moved (record { mail = mail_with_copy actor s.mail c; copies = s.copies ++ c ∷ [] })
  copy_moved s c is before = record {
    moved = λ f.
        let mine = eqb c.receiver actor.me in
        let more = copies-append f s.copies (c ∷ []) in
        let last = single f c.message.number in
        let others : numbers_of f (for_others actor.me (s.copies ++ c ∷ [])) ≡ numbers_of f (for_others actor.me s.copies) + numbers_of f (for_others actor.me (c ∷ []))
        = ap (numbers_of f) (filter-append (λ (x : Delivery Message). not (eqb x.receiver actor.me)) s.copies (c ∷ [])) ∙ copies-append f (for_others actor.me s.copies) (for_others actor.me (c ∷ [])) in
        let inside = one_in f mine s.mail c is before.below in
        let old = before.moved f in
        omega arith;
    below = below_in (eqb c.receiver actor.me) s.mail c.message is before.below;
  }

  fold_moved : (network latency now : ℕ) (fields : List Value) (members : List ℕ) (s : Sending) → Moved s → Moved (fold (with_network_copy actor network latency fields now) s members)
  fold_moved network latency now fields [] s before = before
  fold_moved network latency now fields (receiver ∷ members) s before =
      let arrival = network_arrival actor s.mail network latency now receiver in
      let copy = next_copy actor s.mail receiver (unwrap_or (receiving_buffer actor.routes receiver network) 0) arrival fields in
      let step = copy_moved s copy refl before in
      fold_moved network latency now fields members (with_network_copy actor network latency fields now s receiver) (record { moved = step.moved; below = step.below })

  none_moved : OwnBelow actor.me start → Moved (no_copies start)
  none_moved below = record { moved = λ f. omega arith; below = below }

  on_moved : (p : BufferPlace) (ordered : Bool) (buffer latency : ℕ) (fields : List Value) (now : ℕ) → OwnBelow actor.me start → Good Moved (sending_on p ordered actor start buffer latency fields now)
  on_moved place.Local ordered buffer latency fields now below =
      let copy = next_copy actor start actor.me buffer (local_arrival ordered start buffer latency now) fields in
      let step = copy_moved (no_copies start) copy refl (none_moved below) in
      good_unless Moved (nat_lt copy_limit (start.copies + 1)) Copies (Ok (local_copy actor ordered start buffer latency fields now))
      (good_ok Moved (local_copy actor ordered start buffer latency fields now) (record { moved = step.moved; below = step.below }))
  on_moved (place.To network destination) ordered buffer latency fields now below =
      let members = receivers_of destination fields in
      let sending = fold (with_network_copy actor network latency fields now) (no_copies start) members in
      good_unless Moved (not (list_all (λ receiver. is_some (receiving_buffer actor.routes receiver network)) members)) Route
      (cond (nat_lt copy_limit (start.copies + length members)) (Err Copies) (Ok sending))
      (good_unless Moved (nat_lt copy_limit (start.copies + length members)) Copies (Ok sending)
      (good_ok Moved sending (fold_moved network latency now fields members (no_copies start) (none_moved below))))
  on_moved (place.From network) ordered buffer latency fields now below = good_ok Moved (no_copies start) (none_moved below)

  from_moved : (o : Option BufferSetup) (buffer latency : ℕ) (fields : List Value) (now : ℕ) → OwnBelow actor.me start → Good Moved (sending_from o actor start buffer latency fields now)
  from_moved None buffer latency fields now below = good_ok Moved (no_copies start) (none_moved below)
  from_moved (Some on) buffer latency fields now below = on_moved on.place on.ordered buffer latency fields now below

  pub send_moved : (machine : MachineSetup) (buffer : ℕ) (latency : ℤ) (fields : List Value) (now : ℕ) (s : Sending) → OwnBelow actor.me start → send machine actor start buffer latency fields now ≡ Ok s → Moved s
  send_moved machine buffer latency fields now s below =
      let from = from_moved (slice_get machine.buffers buffer) buffer (nat_abs latency) fields now below in
      elim (is_latency latency) as (λ b. cond b (sending_from (slice_get machine.buffers buffer) actor start buffer (nat_abs latency) fields now) (Err Latency) ≡ Ok s → Moved s) [
        | true ↦ from.good s
        | false ↦ λ wrong. absurd (cc wrong)
      ]
