-- Marks, an inbox and the states of lines, after a change at one key.
use Rattle.std.proofs.Common.{◌≡◌, ◌≢◌, ◌≤◌, ◌⊎◌, ◌↔◌, ◌++◌, ◌||◌, ◌==◌, ℕ, Bool, true, false, not, Option, Some, List, [], ◌∷◌, cond, refl, subst, ap, ◌∙◌, inl, inr, ⊎_elim, Contains, IsTrue, eq-eqb, eqb-true, filter, map, unwrap_or, nat_lt, arith}
use Rattle.std.specs.Cmp.{nat_cmp_total, unsigned_tied}
use Rattle.std.specs.FinMap as finite
use Rattle.std.proofs.lemmas.Bool.{and_from, or_left, or_right}
use Rattle.std.proofs.lemmas.Bool.Decides.{nat_tests}
use Rattle.std.proofs.lemmas.List.Elements.{Contains-append_cases, Contains-append_left, Contains-append_right}
use Rattle.ctl_face.specs.Prelude.{InboxMessage, changed_message, without_message, LocalView, set_state, state}
use Rattle.ruby_value.specs.declared.message.MsgNo.{MsgNo}
use Rattle.ruby_value.specs.Prelude.{has_mark, with_mark, marks_from, number_before, same_number}
use Rattle.ctl_face.specs.Inbox.{with_message}
use Rattle.ruby_value.proofs.Contained.{Contains-cons_cases}
use Rattle.ctl_face.proofs.Held.{nothing-there, at-head, in-rest, in-filter, from-filter, from-map, to-map}

module _ {X : Type 0} (p q : X → Bool) (x : X) (xs : List X) where
  put-to : (y : X) → Contains (filter p xs ++ x ∷ filter q xs) y → (x ≡ y) ⊎ (Contains xs y × ((p y ≡ true) ⊎ (q y ≡ true)))
  put-to y has =
      ⊎_elim
      (λ low. let so = from-filter p xs y low in inr (so.0, inl so.1))
      (λ there. ⊎_elim inl (λ high. let so = from-filter q xs y high in inr (so.0, inr so.1)) (Contains-cons_cases x y (filter q xs) there))
      (Contains-append_cases (filter p xs) (x ∷ filter q xs) y has)

  put-new : (y : X) → x ≡ y → Contains (filter p xs ++ x ∷ filter q xs) y
  put-new y same =
      subst (Contains (filter p xs ++ x ∷ filter q xs)) same
      (Contains-append_right (filter p xs) (x ∷ filter q xs) x (at-head x (filter q xs)))

  put-old : (y : X) → Contains xs y → (p y ≡ true) ⊎ (q y ≡ true) → Contains (filter p xs ++ x ∷ filter q xs) y
  put-old y has passes =
      ⊎_elim
      (λ low. Contains-append_left (filter p xs) (x ∷ filter q xs) y (in-filter p xs y low has))
      (λ high. Contains-append_right (filter p xs) (x ∷ filter q xs) y (in-rest x y (filter q xs) (in-filter q xs y high has)))
      passes

-- marks
has-from : (marks : List ℕ) (cycle : ℕ) → Contains marks cycle → IsTrue (has_mark marks cycle)
has-from [] cycle has = absurd (nothing-there cycle has)
has-from (m ∷ marks) cycle has =
    ⊎_elim
    (λ same. or_left (m == cycle) (has_mark marks cycle) (eq-eqb m cycle same))
    (λ there. or_right (m == cycle) (has_mark marks cycle) (has-from marks cycle there))
    (Contains-cons_cases m cycle marks has)

has-by : (m cycle : ℕ) (marks : List ℕ) (b : Bool) → (m == cycle) ≡ b → IsTrue (b || has_mark marks cycle) → (IsTrue (has_mark marks cycle) → Contains marks cycle) → Contains (m ∷ marks) cycle
has-by m cycle marks true is has rest = (0, omega arith, eqb-true m cycle is)
has-by m cycle marks false is has rest = in-rest m cycle marks (rest has)

has-to : (marks : List ℕ) (cycle : ℕ) → IsTrue (has_mark marks cycle) → Contains marks cycle
has-to [] cycle has = absurd (cc has)
has-to (m ∷ marks) cycle has = has-by m cycle marks (m == cycle) refl has (has-to marks cycle)

one-of-three : (a b : ℕ) → (b ≡ a) ⊎ ((nat_lt a b ≡ true) ⊎ (nat_lt b a ≡ true))
one-of-three a b = grind (arith, nat_tests)

pub with_mark-has : (marks : List ℕ) (cycle other : ℕ) → IsTrue (has_mark (with_mark marks cycle) other) ↔ ((cycle ≡ other) ⊎ IsTrue (has_mark marks other))
with_mark-has marks cycle other =
    let p : ℕ → Bool = λ m. nat_lt m cycle in
    let q : ℕ → Bool = λ m. nat_lt cycle m in (
      λ has. ⊎_elim inl (λ so. inr (has-from marks other so.0)) (put-to p q cycle marks other (has-to (with_mark marks cycle) other has)),
      λ is.
          has-from (with_mark marks cycle) other
          (⊎_elim
          (put-new p q cycle marks other)
          (λ has. ⊎_elim (put-new p q cycle marks other) (put-old p q cycle marks other (has-to marks other has)) (one-of-three other cycle))
          is),
    )

from-passes : (cycle other : ℕ) → cycle ≤ other → not (nat_lt other cycle) ≡ true
from-passes cycle other le = grind (arith, nat_tests)

from-says : (cycle other : ℕ) → not (nat_lt other cycle) ≡ true → cycle ≤ other
from-says cycle other is = grind (arith, nat_tests, is)

pub marks_from-has : (marks : List ℕ) (cycle other : ℕ) → IsTrue (has_mark (marks_from cycle marks) other) ↔ ((cycle ≤ other) × IsTrue (has_mark marks other))
marks_from-has marks cycle other =
    let p : ℕ → Bool = λ m. not (nat_lt m cycle) in (
      λ has. let so = from-filter p marks other (has-to (marks_from cycle marks) other has) in (from-says cycle other so.1, has-from marks other so.0),
      λ is. has-from (marks_from cycle marks) other (in-filter p marks other (from-passes cycle other is.0) (has-to marks other is.1)),
    )

-- messages
same-refl : (a : MsgNo) → same_number a a ≡ true
same-refl a = and_from (a.sender == a.sender) (a.count == a.count) (eq-eqb a.sender a.sender refl) (eq-eqb a.count a.count refl)

number-is : (a b : MsgNo) → a.sender ≡ b.sender → a.count ≡ b.count → a ≡ b
number-is a b sender count = λ i. record { sender = sender i; count = count i }

number-three : (a b : MsgNo) → ((a.sender ≡ b.sender) × (a.count ≡ b.count)) ⊎ ((number_before a b ≡ true) ⊎ (number_before b a ≡ true))
number-three a b = grind (arith, nat_tests)

numbers-apart : (a b : MsgNo) → a ≢ b → (number_before a b ≡ true) ⊎ (number_before b a ≡ true)
numbers-apart a b apart =
    ⊎_elim
    (λ same. absurd (apart (number-is a b same.0 same.1)))
    (λ other. other)
    (number-three a b)

not-itself : (a : MsgNo) → number_before a a ≡ true → ⊥
not-itself a is = grind (arith, nat_tests, is)

before-apart : (a b : MsgNo) → number_before a b ≡ true → a ≢ b
before-apart a b is = λ same. not-itself b (subst (λ (n : MsgNo). number_before n b ≡ true) same is)

after-apart : (a b : MsgNo) → number_before b a ≡ true → a ≢ b
after-apart a b is = λ same. not-itself b (subst (λ (n : MsgNo). number_before b n ≡ true) same is)

pub with_message-contains : (inbox : List InboxMessage) (m other : InboxMessage) → Contains (with_message inbox m) other ↔ ((m ≡ other) ⊎ (Contains inbox other × (other.message.number ≢ m.message.number)))
with_message-contains inbox m other =
    let p : InboxMessage → Bool = λ o. number_before o.message.number m.message.number in
    let q : InboxMessage → Bool = λ o. number_before m.message.number o.message.number in (
      λ has.
          ⊎_elim
          inl
          (λ so. inr (so.0, ⊎_elim (before-apart other.message.number m.message.number) (after-apart other.message.number m.message.number) so.1))
          (put-to p q m inbox other has),
      λ is. ⊎_elim (put-new p q m inbox other) (λ so. put-old p q m inbox other so.0 (numbers-apart other.message.number m.message.number so.1)) is,
    )

same-parts : (a b : MsgNo) → ((a.sender ≡ b.sender) × (a.count ≡ b.count)) ⊎ (not (same_number a b) ≡ true)
same-parts a b = grind (arith, nat_tests)

not-same : (a b : MsgNo) → not (same_number a b) ≡ true → a ≢ b
not-same a b is = λ same.
    let one : same_number a b ≡ true = subst (λ (n : MsgNo). same_number a n ≡ true) same (same-refl a) in
    absurd (cc (is, one))

apart-passes : (a b : MsgNo) → a ≢ b → not (same_number a b) ≡ true
apart-passes a b apart =
    ⊎_elim
    (λ same. absurd (apart (number-is a b same.0 same.1)))
    (λ is. is)
    (same-parts a b)

pub without_message-contains : (inbox : List InboxMessage) (number : MsgNo) (other : InboxMessage) → Contains (without_message inbox number) other ↔ (Contains inbox other × (other.message.number ≢ number))
without_message-contains inbox number other =
    let p : InboxMessage → Bool = λ o. not (same_number o.message.number number) in (
      λ has. let so = from-filter p inbox other has in (so.0, not-same other.message.number number so.1),
      λ is. in-filter p inbox other (apart-passes other.message.number number is.1) is.0,
    )

-- two numbers that the test calls the same are
same-is : (a b : MsgNo) → same_number a b ≡ true → a ≡ b
same-is a b is =
    ⊎_elim
    (λ same. number-is a b same.0 same.1)
    (λ apart. absurd (cc (is, apart)))
    (same-parts a b)

is-same : (a b : MsgNo) → a ≡ b → same_number a b ≡ true
is-same a b is = subst (λ (n : MsgNo). same_number a n ≡ true) is (same-refl a)

false-not : (a b : MsgNo) → same_number a b ≡ false → a ≢ b
false-not a b is = λ same. let one : same_number a b ≡ true = is-same a b same in absurd (cc (is, one))

not-false : (a b : MsgNo) → a ≢ b → same_number a b ≡ false
not-false a b apart =
    ⊎_elim
    (λ same. absurd (apart (number-is a b same.0 same.1)))
    (λ is. turned (same_number a b) is)
    (same-parts a b)
  where
    turned : (b : Bool) → not b ≡ true → b ≡ false
    turned true is = cc
    turned false is = refl

abbrev pub ChangedFrom : List InboxMessage → MsgNo → (InboxMessage → InboxMessage) → InboxMessage → Type 0
ChangedFrom inbox number change other = (Contains inbox other × (other.message.number ≢ number)) ⊎ ((o : InboxMessage) × Contains inbox o × (o.message.number ≡ number) × (change o ≡ other))

changed-by : (inbox : List InboxMessage) (number : MsgNo) (change : InboxMessage → InboxMessage) (other o : InboxMessage) (b : Bool) → same_number o.message.number number ≡ b → Contains inbox o → cond b (change o) o ≡ other → ChangedFrom inbox number change other
changed-by inbox number change other o true is has became = inr (o, has, same-is o.message.number number is, became)
changed-by inbox number change other o false is has became =
    inl (subst (λ (x : InboxMessage). Contains inbox x × (x.message.number ≢ number)) became (has, false-not o.message.number number is))

pub changed_message-contains : (inbox : List InboxMessage) (number : MsgNo) (change : InboxMessage → InboxMessage) (other : InboxMessage) → Contains (changed_message inbox number change) other ↔ ChangedFrom inbox number change other
changed_message-contains inbox number change other =
    let f : InboxMessage → InboxMessage = λ o. cond (same_number o.message.number number) (change o) o in (
      λ has. let so = from-map f inbox other has in changed-by inbox number change other so.0 (same_number so.0.message.number number) refl so.1 so.2,
      λ is.
          ⊎_elim
          (λ (so : Contains inbox other × (other.message.number ≢ number)).
          subst (Contains (map f inbox)) (ap (λ (b : Bool). cond b (change other) other) (not-false other.message.number number so.1)) (to-map f inbox other so.0))
          (λ (so : (o : InboxMessage) × Contains inbox o × (o.message.number ≡ number) × (change o ≡ other)).
          subst (Contains (map f inbox)) (ap (λ (b : Bool). cond b (change so.0) so.0) (is-same so.0.message.number number so.2) ∙ so.3) (to-map f inbox so.0 so.1))
          is,
    )

-- states
or_else : (b : Bool) (new : ℕ) (o : Option ℕ) (d : ℕ) → unwrap_or (cond b (Some new) o) d ≡ cond b new (unwrap_or o d)
or_else true new o d = refl
or_else false new o d = refl

pub set_state-at : (v : LocalView) (line new other : ℕ) → state (set_state v line new) other ≡ cond (other == line) new (state v other)
set_state-at v line new other =
    let d = unwrap_or v.machine.default_state 0 in
    ap (λ (o : Option ℕ). unwrap_or o d) (finite.get-insert nat_cmp_total v.ctl.states line new other)
    ∙ ap (λ (b : Bool). unwrap_or (cond b (Some new) (finite.get v.ctl.states other)) d) (unsigned_tied other line)
    ∙ or_else (other == line) new (finite.get v.ctl.states other) d
