-- What stands before the first of some bytes.
use Rattle.std.proofs.Common.{◌≡◌, ◌≢◌, ◌==◌, ℕ, Bool, true, false, None, Some, List, ◌∷◌, ◌++◌, EachIndex, length, take, get_or, nat_lt, cond, position, refl, ap, sym, ◌∙◌, arith, length-append, ltb-false, ne_eqb}
use Rattle.std.proofs.lemmas.List.{get_or_append_left, get_or_at, take_all, take_at}
use Rattle.std.proofs.lemmas.List.Sums.{position_or_len_is}
use Rattle.std.specs.List.{before_first, position_or_len}
use Rattle.trace_print.specs.Prelude.{machine_part}

module _ (p : ℕ → Bool) (xs : List ℕ) where
  none_by : (t : Bool) → nat_lt (position_or_len p xs) (length xs) ≡ t → None ≡ cond t (Some (position_or_len p xs)) None → xs ≡ before_first p xs
  none_by true is none = absurd (cc)
  none_by false is none = sym (take_all (position_or_len p xs) xs (ltb-false _ _ is))

  pub none_before : None ≡ position p xs → xs ≡ before_first p xs
  none_before none = none_by (nat_lt (position_or_len p xs) (length xs)) refl none

  some_by : (i : ℕ) (t : Bool) → Some i ≡ cond t (Some (position_or_len p xs)) None → take i xs ≡ before_first p xs
  some_by i true is = let same : i ≡ position_or_len p xs = cc in ap (λ n. take n xs) same
  some_by i false is = absurd (cc)

  pub some_before : (i : ℕ) → Some i ≡ position p xs → take i xs ≡ before_first p xs
  some_before i is = some_by i (nat_lt (position_or_len p xs) (length xs)) is

-- what stands before the first dash of a name without one, a dash and whatever follows
pub part_of_name : (name place : List ℕ) → EachIndex name (λ k. get_or name k 0 ≢ 45) → machine_part (name ++ 45 ∷ place) ≡ name
part_of_name name place none =
    let all = name ++ 45 ∷ place in
    let first : position_or_len (λ byte. byte == 45) all ≡ length name =
    position_or_len_is (λ byte. byte == 45) all (length name) 0 (omega (arith, length-append name (45 ∷ place)))
    (λ k below. ap (λ byte. byte == 45) (get_or_append_left name (45 ∷ place) 0 k below) ∙ ne_eqb (get_or name k 0) 45 (none k below))
    (λ within. ap (λ byte. byte == 45) (get_or_at name 45 place 0 (length name) refl)) in
    ap (λ n. take n all) first ∙ take_at name (45 ∷ place) (length name) refl
