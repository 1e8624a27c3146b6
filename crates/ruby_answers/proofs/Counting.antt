-- What one more element adds to a count.
use Rattle.std.proofs.Common.{◌≡◌, ℕ, ◌+◌, ◌<◌, Bool, cond, List, [], ◌∷◌, ◌++◌, count_by, length, slice_index_or, sum_by, take, add-one, ap, sym, ◌∙◌, arith}
use Rattle.std.proofs.Math.Seq.{take-suc}
use Rattle.std.proofs.lemmas.List.Sums.{sum_by-append}

pub count_step : {X : Type 0} (p : X → Bool) (xs : List X) (i : ℕ) (x : X) → i < length xs → x ≡ slice_index_or xs i x
    → count_by p (take (i + 1) xs) ≡ count_by p (take i xs) + cond (p x) 1 0
count_step {X} p xs i x below is =
    let f : X → ℕ = λ y. cond (p y) 1 0 in
    let taken : take (i + 1) xs ≡ take i xs ++ x ∷ [] = rw (add-one, take-suc xs i x below) (ap (λ y. take i xs ++ y ∷ []) (sym is)) in
    let one : sum_by f (x ∷ []) ≡ f x = omega arith in
    ap (count_by p) taken ∙ sum_by-append f (take i xs) (x ∷ []) ∙ ap (λ n. count_by p (take i xs) + n) one
