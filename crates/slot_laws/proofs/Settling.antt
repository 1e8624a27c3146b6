-- What slots and credits are as a cycle begins: each credit that has arrived has gone, and so has the slot that it was for.
use Rattle.std.proofs.Common.{◌≡◌, ◌≤◌, ◌+◌, ◌-◌, ◌∙◌, ◌&&◌, ℕ, Bool, true, false, cond, eqb, eqb-true, not, nat_le, List, [], ◌∷◌, map, Option, Some, unwrap_or, refl, ap, arith}
use Rattle.std.specs.Prelude.{count_by, nat_lt}
use Rattle.std.specs.List.{filter, find}
use Rattle.std.specs.Option.{option_map}
use Rattle.std.proofs.lemmas.Bool.{and_parts}
use Rattle.std.proofs.lemmas.Bool.Decides.{nat_tests}
use Rattle.std.proofs.lemmas.List.Sums.{length-filter}
use Rattle.ctl_face.specs.declared.parcel.Credit.{Credit}
use Rattle.ctl_face.specs.declared.parcel.Lent.{Lent}
use Rattle.ctl_face.specs.Prelude.{arrived_credits, credits_from, is_credit_of, is_lent_of, lent_at, lent_from, settled}
use Rattle.slot_laws.specs.Prelude.{credits_held}
use Rattle.slot_laws.proofs.Counts.{count-cons, one}

-- what passes one test passes the other, as counts
pub one_le : (b c : Bool) → (b ≡ true → c ≡ true) → ◌≤◌ (cond b 1 0) (cond c 1 0)
one_le true true to = omega arith
one_le true false to = absurd (cc (to refl))
one_le false c to = omega arith

module _ {X : Type 0} (t u : X → Bool) where
  -- what passes one test passes the other
  pub count_le : ((x : X) → t x ≡ true → u x ≡ true) → (xs : List X) → count_by t xs ≤ count_by u xs
  count_le to [] = omega arith
  count_le to (x ∷ xs) =
      let rest = count_le to xs in
      let here = one_le (t x) (u x) (to x) in
      let first = count-cons t x xs in
      let second = count-cons u x xs in
      omega arith

  never : (k : Bool) → ◌≡◌ {A = ℕ} (cond (k && false) 1 0) 0
  never true = refl
  never false = refl

  itself : (k : Bool) → ◌≡◌ {A = ℕ} (cond (k && true) 1 0) (cond k 1 0)
  itself true = refl
  itself false = refl

  -- each that passes the one test passes the second or doesn't
  count_split : (xs : List X) → count_by t (filter u xs) + count_by (λ x. t x && not (u x)) xs ≡ count_by t xs
  count_split [] = omega arith
  count_split (x ∷ xs) = by (t x) (u x) refl refl (count_split xs)
    where
      by : (b c : Bool) → t x ≡ b → u x ≡ c → count_by t (filter u xs) + count_by (λ y. t y && not (u y)) xs ≡ count_by t xs
          → count_by t (cond (u x) (x ∷ filter u xs) (filter u xs)) + count_by (λ y. t y && not (u y)) (x ∷ xs) ≡ count_by t (x ∷ xs)
      by b true is keeps rest =
          let kept : count_by t (cond (u x) (x ∷ filter u xs) (filter u xs)) ≡ count_by t (x ∷ filter u xs) = ap (λ (k : Bool). count_by t (cond k (x ∷ filter u xs) (filter u xs))) keeps in
          let f = count-cons t x (filter u xs) in
          let all = count-cons t x xs in
          let g = count-cons (λ y. t y && not (u y)) x xs in
          let none : one (λ y. t y && not (u y)) x ≡ 0 = ap (λ (k : Bool). cond (t x && not k) 1 0) keeps ∙ never (t x) in
          omega arith
      by b false is keeps rest =
          let kept : count_by t (cond (u x) (x ∷ filter u xs) (filter u xs)) ≡ count_by t (filter u xs) = ap (λ (k : Bool). count_by t (cond k (x ∷ filter u xs) (filter u xs))) keeps in
          let all = count-cons t x xs in
          let g = count-cons (λ y. t y && not (u y)) x xs in
          let same : one (λ y. t y && not (u y)) x ≡ one t x = ap (λ (k : Bool). cond (t x && not k) 1 0) keeps ∙ itself (t x) in
          omega arith

abbrev has_arrived : (r b now : ℕ) → Credit → Bool
has_arrived r b now c = is_credit_of r b c && nat_le c.arrival now

arrived_counted : (credits : List Credit) (r b now : ℕ) → arrived_credits credits r b now ≡ count_by (has_arrived r b now) credits
arrived_counted credits r b now = length-filter (has_arrived r b now) credits

pub arrived_are_held : (credits : List Credit) (r b now : ℕ) → arrived_credits credits r b now ≤ credits_held credits r b
arrived_are_held credits r b now =
    let all = arrived_counted credits r b now in
    let few = count_le (has_arrived r b now) (is_credit_of r b) (λ c is. (and_parts (is_credit_of r b c) (nat_le c.arrival now) is).0) credits in
    omega arith

still_arrived : (r b now later : ℕ) → now ≤ later → (c : Credit) → has_arrived r b now c ≡ true → has_arrived r b later c ≡ true
still_arrived r b now later before c is = grind (arith, nat_tests, before, is)

pub more_arrive : (credits : List Credit) (r b now later : ℕ) → now ≤ later → arrived_credits credits r b now ≤ arrived_credits credits r b later
more_arrive credits r b now later before =
    let first = arrived_counted credits r b now in
    let second = arrived_counted credits r b later in
    let few = count_le (has_arrived r b now) (has_arrived r b later) (still_arrived r b now later before) credits in
    omega arith

gone_arrived : (r b now : ℕ) (c : Credit) → (is_credit_of r b c && not (nat_lt now c.arrival)) ≡ has_arrived r b now c
gone_arrived r b now c = grind (arith, nat_tests)

-- each credit is kept or has arrived
pub credits_kept : (credits : List Credit) (r b now : ℕ) → credits_held (credits_from now credits) r b + arrived_credits credits r b now ≡ credits_held credits r b
credits_kept credits r b now =
    let split = count_split (is_credit_of r b) (λ (c : Credit). nat_lt now c.arrival) credits in
    let all = arrived_counted credits r b now in
    let same : count_by (λ c. is_credit_of r b c && not (nat_lt now c.arrival)) credits ≡ count_by (has_arrived r b now) credits =
    ap (λ (t : Credit → Bool). count_by t credits) (λ i c. gone_arrived r b now c i) in
    omega arith

abbrev count_of : Option Lent → ℕ
count_of o = unwrap_or (option_map (λ (l : Lent). l.count) o) 0

pub lent_settled : (credits : List Credit) (now r b : ℕ) (lent : List Lent) → lent_at (lent_from now credits lent) r b ≡ lent_at lent r b - arrived_credits credits r b now
lent_settled credits now r b [] = omega arith
lent_settled credits now r b (l ∷ rest) =
    let seen = is_lent_of r b in
    let after = settled credits now l in
    elim (seen l) as (λ k. seen l ≡ k
    → count_of (cond k (Some after) (find seen (map (settled credits now) rest))) ≡ count_of (cond k (Some l) (find seen rest)) - arrived_credits credits r b now) [
      | true ↦ λ is.
          let parts = and_parts (eqb l.receiver r) (eqb l.buffer b) is in
          ap (λ (x : ℕ). l.count - arrived_credits credits x l.buffer now) (eqb-true l.receiver r parts.0)
          ∙ ap (λ (y : ℕ). l.count - arrived_credits credits r y now) (eqb-true l.buffer b parts.1)
      | false ↦ λ is. lent_settled credits now r b rest
    ] refl
