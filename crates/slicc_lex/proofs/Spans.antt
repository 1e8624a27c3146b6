-- The longest front of a list that passes a test.
use Rattle.std.proofs.Common.{◌≡◌, ◌+◌, ◌≤◌, ℕ, suc, Bool, true, false, List, [], ◌∷◌, ◌++◌, length, take, drop, refl, sym, ◌∙◌, subst, arith, ⊎_elim, one-add}
use Rattle.std.specs.List.{prefix_len, list_all}
use Rattle.std.proofs.lemmas.Bool.{cond-true, cond-false, cases_Bool, and_parts, and_from}

-- the list begins with an element that passes
abbrev pub begins : (ℕ → Bool) → List ℕ → Bool
begins p [] = false
begins p (c ∷ cs) = p c

-- a front that passes is at most as long as the longest one
pub front_within : (p : ℕ → Bool) (front rest : List ℕ) → list_all p front ≡ true → length front ≤ prefix_len p (front ++ rest)
front_within p [] rest all = omega arith
front_within p (c ∷ cs) rest all =
    let parts = and_parts (p c) (list_all p cs) all in
    let inner : length cs ≤ prefix_len p (cs ++ rest) = front_within p cs rest parts.1 in
    omega (arith, cond-true (p c) (1 + prefix_len p (cs ++ rest)) 0 parts.0)

-- what passes, up to what doesn't, is the longest front that passes
pub len_span : (p : ℕ → Bool) (front rest : List ℕ) → list_all p front ≡ true → begins p rest ≡ false → prefix_len p (front ++ rest) ≡ length front
len_span p [] [] all stops = refl
len_span p [] (c ∷ cs) all stops = cond-false (p c) (1 + prefix_len p cs) 0 stops
len_span p (c ∷ cs) rest all stops =
    let parts = and_parts (p c) (list_all p cs) all in
    let inner : prefix_len p (cs ++ rest) ≡ length cs = len_span p cs rest parts.1 stops in
    cond-true (p c) (1 + prefix_len p (cs ++ rest)) 0 parts.0 ∙ omega (arith, inner)

-- the first elements pass, up to one that doesn't or the end
abbrev pub IsSpan : (ℕ → Bool) → List ℕ → ℕ → Type 0
IsSpan p xs n = (list_all p (take n xs) ≡ true) × (begins p (drop n xs) ≡ false)

-- the longest front that passes does, and what is behind it begins with nothing that passes
pub span_is : (p : ℕ → Bool) (xs : List ℕ) → IsSpan p xs (prefix_len p xs)
span_is p [] = (refl, refl)
span_is p (c ∷ cs) =
    ⊎_elim
    (λ passes.
    let n : prefix_len p (c ∷ cs) ≡ suc (prefix_len p cs) = cond-true (p c) (1 + prefix_len p cs) 0 passes ∙ one-add (prefix_len p cs) in
    let later = span_is p cs in
    subst (IsSpan p (c ∷ cs)) (sym n) (and_from (p c) (list_all p (take (prefix_len p cs) cs)) passes later.0, later.1))
    (λ fails. subst (IsSpan p (c ∷ cs)) (sym (cond-false (p c) (1 + prefix_len p cs) 0 fails)) (refl, fails))
    (cases_Bool (p c))
