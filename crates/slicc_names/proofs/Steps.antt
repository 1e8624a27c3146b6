-- Going through parts of a tree, of which each has scopes.
use Rattle.std.proofs.Common.{◌≡◌, ◌<◌, ◌≤◌, ◌+◌, ℕ, List, [], ◌∷◌, ◌++◌, flat_map, take, Option, refl, sym, ap, ◌∙◌, append-nil, add-one, slice_index_or, length}
use Rattle.std.proofs.Math.Seq.{take-suc}
use Rattle.std.proofs.lemmas.Grind.{flat_map-append}
use Rattle.std.proofs.lemmas.List.{take_all}
use Rattle.slicc_plan.proofs.Firsts.{first_after-append, first_after-flat_map}
use Rattle.slicc_plan.specs.declared.broken.Broken.{Broken}
use Rattle.slicc_plan.specs.Prelude.{Declaration, first_after, repeated}

pub told_in_both : (xs ys : List (List Declaration)) (f g h : Option Broken) → g ≡ first_after f (flat_map repeated xs) → h ≡ first_after g (flat_map repeated ys) → h ≡ first_after f (flat_map repeated (xs ++ ys))
told_in_both xs ys f g h p q =
    q ∙ ap (λ o. first_after o (flat_map repeated ys)) p ∙ sym (first_after-append f (flat_map repeated xs) (flat_map repeated ys))
    ∙ ap (first_after f) (sym (flat_map-append repeated xs ys))

-- after one more step of a loop
pub told_in_taken : {X : Type 0} (k : X → List (List Declaration)) (xs : List X) (i : ℕ) (d : X) (f g h : Option Broken) → i < length xs → d ≡ slice_index_or xs i d
    → g ≡ first_after f (flat_map repeated (flat_map k (take i xs))) → h ≡ first_after g (flat_map repeated (k d)) → h ≡ first_after f (flat_map repeated (flat_map k (take (i + 1) xs)))
told_in_taken k xs i d f g h below is p q =
    let taken : take (i + 1) xs ≡ take i xs ++ slice_index_or xs i d ∷ [] = rw (add-one, take-suc xs i d below) refl in
    told_in_both (flat_map k (take i xs)) (k d) f g h p q
    ∙ ap (λ x. first_after f (flat_map repeated (flat_map k (take i xs) ++ k x))) is
    ∙ ap (λ ys. first_after f (flat_map repeated (flat_map k (take i xs) ++ ys))) (sym (append-nil (k (slice_index_or xs i d))))
    ∙ ap (λ ys. first_after f (flat_map repeated ys)) (sym (flat_map-append k (take i xs) (slice_index_or xs i d ∷ [])))
    ∙ ap (λ ys. first_after f (flat_map repeated (flat_map k ys))) (sym taken)

pub told_in_three : (xs ys zs : List (List Declaration)) (f g h k : Option Broken) → g ≡ first_after f (flat_map repeated xs) → h ≡ first_after g (flat_map repeated ys) → k ≡ first_after h (flat_map repeated zs) → k ≡ first_after f (flat_map repeated (xs ++ ys ++ zs))
told_in_three xs ys zs f g h k p q r = told_in_both (xs ++ ys) zs f h k (told_in_both xs ys f g h p q) r

-- a scope and those after it
pub told_in_body : (own : List Declaration) (xs : List (List Declaration)) (f g h : Option Broken) → g ≡ first_after f (repeated own) → h ≡ first_after g (flat_map repeated xs) → h ≡ first_after f (flat_map repeated (own ∷ xs))
told_in_body own xs f g h p q =
    q ∙ ap (λ o. first_after o (flat_map repeated xs)) p ∙ sym (first_after-append f (repeated own) (flat_map repeated xs))

-- the same of parts that are told of one by one
pub told_taken : {X : Type 0} (k : X → List Broken) (xs : List X) (i : ℕ) (d : X) (f g h : Option Broken) → i < length xs → d ≡ slice_index_or xs i d
    → g ≡ first_after f (flat_map k (take i xs)) → h ≡ first_after g (k d) → h ≡ first_after f (flat_map k (take (i + 1) xs))
told_taken k xs i d f g h below is p q =
    q ∙ ap (λ x. first_after g (k x)) is ∙ ap (λ o. first_after o (k (slice_index_or xs i d))) p ∙ sym (first_after-flat_map k xs i d f below)

pub told_all : {X : Type 0} (k : X → List Broken) (xs : List X) (i : ℕ) (f g : Option Broken) → length xs ≤ i → g ≡ first_after f (flat_map k (take i xs)) → g ≡ first_after f (flat_map k xs)
told_all k xs i f g past told = told ∙ ap (λ ys. first_after f (flat_map k ys)) (take_all i xs past)
