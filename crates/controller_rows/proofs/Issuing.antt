-- Issuing requests one by one comes to the seats that issuing those that can be issued has.
use Rattle.std.proofs.Common.{◌≡◌, ℕ, ◌+◌, ◌<◌, ◌↔◌, Bool, true, false, Option, None, Some, IsNone, IsTrue, List, [], ◌∷◌, is_none, length, drop, sym, ap, subst, ◌∙◌, refl, arith}
use Rattle.std.proofs.lemmas.Bool.{and_from, and_left, and_right}
use Rattle.ruby_value.specs.declared.asked.Asked.{Asked}
use Rattle.sequencer.specs.declared.issued.Issued.{Issued}
use Rattle.sequencer.specs.Prelude.{after_issuing, Seat, Seating, outstanding_at, with_issued, with_seats}
use Rattle.controller_rows.specs.Prelude.{can_be_issued, issued_of, may_be_issued}

-- the seats after these requests
abbrev pub after_each : ℕ → Seating → List Issued → Seating
after_each now s is = after_issuing s (issued_of now s.seats is)

-- one request
pub not-issued : (now : ℕ) (s : Seating) (i : Issued) → can_be_issued now s.seats i ≡ false → s ≡ after_each now s (i ∷ [])
not-issued now s i is = rw is refl

pub is-issued : (now : ℕ) (s : Seating) (i : Issued) → can_be_issued now s.seats i ≡ true → with_issued s i ≡ after_each now s (i ∷ [])
is-issued now s i is = rw is refl

some-outstanding : (o : Option Asked) (r : Bool) → r ≡ false → (IsTrue r ↔ IsNone o) → is_none o ≡ false
some-outstanding None r is free = grind arith
some-outstanding (Some a) r is free = refl

pub asked : (now : ℕ) (s after : Seating) (i : Issued) (r : Bool) → may_be_issued now s.seats i ≡ true
    → (IsTrue r ↔ IsNone (outstanding_at s.seats i.seat i.asked.line))
    → (IsTrue r → after ≡ with_issued s i) → (r ≡ false → after ≡ s) → after ≡ after_each now s (i ∷ [])
asked now s after i true may free issued refused =
    let none : is_none (outstanding_at s.seats i.seat i.asked.line) ≡ true = grind arith in
    issued refl ∙ is-issued now s i (and_from (may_be_issued now s.seats i) (is_none (outstanding_at s.seats i.seat i.asked.line)) may none)
asked now s after i false may free issued refused =
    let some : is_none (outstanding_at s.seats i.seat i.asked.line) ≡ false =
    some-outstanding (outstanding_at s.seats i.seat i.asked.line) false refl free in
    refused refl ∙ not-issued now s i (and_right (may_be_issued now s.seats i) (is_none (outstanding_at s.seats i.seat i.asked.line)) some)

pub passed : (now : ℕ) (s : Seating) (i : Issued) → may_be_issued now s.seats i ≡ false → s ≡ after_each now s (i ∷ [])
passed now s i may = not-issued now s i (and_left (may_be_issued now s.seats i) (is_none (outstanding_at s.seats i.seat i.asked.line)) may)

-- one request and then the rest
one-by : (now : ℕ) (s : Seating) (i : Issued) (rest : List Issued) (b : Bool) → can_be_issued now s.seats i ≡ b
    → after_each now (after_each now s (i ∷ [])) rest ≡ after_each now s (i ∷ rest)
one-by now s i rest true is = rw is refl
one-by now s i rest false is = rw is refl

pub one : (now : ℕ) (s : Seating) (i : Issued) (rest : List Issued) → after_each now (after_each now s (i ∷ [])) rest ≡ after_each now s (i ∷ rest)
one now s i rest = one-by now s i rest (can_be_issued now s.seats i) refl

pub goes-on : (now : ℕ) (s after end : Seating) (is : List Issued) (k : ℕ) (i : Issued) → drop k is ≡ i ∷ drop (k + 1) is
    → after ≡ after_each now s (i ∷ []) → after_each now s (drop k is) ≡ end → after_each now after (drop (k + 1) is) ≡ end
goes-on now s after end is k i at same on =
    subst (λ (a : Seating). after_each now a (drop (k + 1) is) ≡ end) (sym same)
    (one now s i (drop (k + 1) is) ∙ ap (λ (ys : List Issued). after_each now s ys) (sym at) ∙ on)

-- taking and then issuing
same-seating : (a b : Seating) → a.seats ≡ b.seats → a.issued ≡ b.issued → a ≡ b
same-seating a b seats issued =
    ap (λ (xs : List Seat). (let s : Seating = record { seats = xs; issued = a.issued } in s)) seats
    ∙ ap (λ (xs : List Issued). (let s : Seating = record { seats = b.seats; issued = xs } in s)) issued

pub after-both : (now : ℕ) (before taken after : Seating) (seats : List Seat) (is : List Issued) → taken.seats ≡ seats → taken.issued ≡ before.issued
    → after ≡ after_each now taken is → after ≡ after_each now (with_seats before seats) is
after-both now before taken after seats is at kept same =
    same ∙ ap (λ (s : Seating). after_each now s is) (same-seating taken (with_seats before seats) at kept)
