-- What a further name makes of the numbers of names.
use Rattle.std.proofs.Common.{◌≡◌, ℕ, ◌+◌, ◌<◌, Bool, true, false, true≢false, not, cond, ◌||◌, List, [], ◌∷◌, ◌++◌, length, Option, None, Some, is_some, refl, ap, ◌∙◌, nat_eq, nat_lt, lt-ltb, arith}
use Rattle.std.proofs.lemmas.Grind.{common_steps}
use Rattle.std.proofs.lemmas.List.{length-append}
use Rattle.std.proofs.lemmas.List.Folds.{position_or_len_push}
use Rattle.std.specs.Cmp.Lexicographic.{nat_list_eq_equiv}
use Rattle.std.specs.List.{AllByRecursion, IsDistinct, list_any, position_or_len, prefix_len}
use Rattle.std.specs.Str.{bytes_eq}
use Rattle.ruby_base.specs.Prelude.{AreDistinct, is_name, number_among, with_name}

-- a name that is there changes nothing
pub with_name-there : (names : List (List ℕ)) (name : List ℕ) → list_any (is_name name) names ≡ true → with_name names name ≡ names
with_name-there names name there = ap (λ b. cond b names (names ++ name ∷ [])) there

pub with_name-new : (names : List (List ℕ)) (name : List ℕ) → list_any (is_name name) names ≡ false → with_name names name ≡ names ++ name ∷ []
with_name-new names name new = ap (λ b. cond b names (names ++ name ∷ [])) new

-- a name that wasn't there has the last number
one_more : (names : List (List ℕ)) (name n : List ℕ) (b : Bool) → b ≡ is_name name n → (b || list_any (is_name name) names) ≡ false
    → (list_any (is_name name) names ≡ false → prefix_len (λ m. not (is_name name m)) (names ++ name ∷ []) ≡ length names)
    → cond (not b) (1 + prefix_len (λ m. not (is_name name m)) (names ++ name ∷ [])) 0 ≡ length (n ∷ names)
one_more names name n true e h rest = cc
one_more names name n false e h rest = omega (arith, rest h)

prefix_len-new : (names : List (List ℕ)) (name : List ℕ) → list_any (is_name name) names ≡ false → prefix_len (λ m. not (is_name name m)) (names ++ name ∷ []) ≡ length names
prefix_len-new [] name new = ap (λ b. cond (not b) 1 0) (nat_list_eq_equiv.refl name)
prefix_len-new (n ∷ names) name new = one_more names name n (is_name name n) refl new (prefix_len-new names name)

pub number-new : (names : List (List ℕ)) (name : List ℕ) → list_any (is_name name) names ≡ false → number_among (names ++ name ∷ []) name ≡ Some (length names)
number-new names name new =
    let all : length (names ++ name ∷ []) ≡ length names + 1 = simp length-append in
    let below : length names < length (names ++ name ∷ []) = omega (arith, all) in
    let within : nat_lt (length names) (length (names ++ name ∷ [])) ≡ true = lt-ltb _ _ below in
    rw (prefix_len-new names name new, within) refl

-- a name has a number where it is among them
pub found : (names : List (List ℕ)) (name : List ℕ) → is_some (number_among names name) ≡ list_any (is_name name) names
found [] name = refl
found (n ∷ names) name = by (is_name name n) (found names name) where
  at : ℕ
  at = prefix_len (λ m. not (is_name name m)) names

  by : (b : Bool) → is_some (cond (nat_lt at (length names)) (Some at) None) ≡ list_any (is_name name) names
      → is_some (cond (nat_lt (cond (not b) (1 + at) 0) (length (n ∷ names))) (Some (cond (not b) (1 + at) 0)) None) ≡ (b || list_any (is_name name) names)
  by true rest = grind (arith, common_steps)
  by false rest = grind (arith, common_steps)

-- a further name changes the number of no other one
pub number-other : (names : List (List ℕ)) (name n : List ℕ) → is_name n name ≡ false → number_among (names ++ name ∷ []) n ≡ number_among names n
number-other names name n other =
    let long : length (names ++ name ∷ []) ≡ length names + 1 = simp length-append in
    let at : position_or_len (is_name n) (names ++ name ∷ []) ≡ cond (nat_eq (position_or_len (is_name n) names) (length names)) (length names + 1) (position_or_len (is_name n) names) =
    position_or_len_push (is_name n) names name ∙ ap (λ b. cond (nat_eq (position_or_len (is_name n) names) (length names)) (length names + cond b 0 1) (position_or_len (is_name n) names)) other in
    grind (arith, common_steps)

all_more : {X : Type 0} (P : X → Type 0) (xs : List X) (y : X) → AllByRecursion P xs → P y → AllByRecursion P (xs ++ y ∷ [])
all_more P [] y h p = (p, tt)
all_more P (x ∷ xs) y h p = (h.0, all_more P xs y h.1 p)

none_of : (b h : Bool) → (b || h) ≡ false → (b ≡ false) × (h ≡ false)
none_of true h e = (e, absurd (true≢false e))
none_of false h e = (refl, e)

-- names stay distinct with a new one
pub distinct-new : (names : List (List ℕ)) (name : List ℕ) → AreDistinct names → list_any (is_name name) names ≡ false → AreDistinct (names ++ name ∷ [])
unfolding IsDistinct
distinct-new [] name d new = (tt, tt)
distinct-new (n ∷ names) name d new =
    let apart : (is_name name n ≡ false) × (list_any (is_name name) names ≡ false) = none_of (is_name name n) (list_any (is_name name) names) new in
    (all_more (λ m. bytes_eq n m ≡ false) names name d.0 apart.0, distinct-new names name d.1 apart.1)

pub not_some : {X : Type 0} (o : Option X) → ((x : X) → o ≡ Some x → ⊥) → is_some o ≡ false
not_some None h = refl
not_some (Some x) h = absurd (h x refl)
