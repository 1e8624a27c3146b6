-- One more number of a range.
use Rattle.std.proofs.Common.{◌≡◌, ◌+◌, ◌∙◌, ℕ, zero, suc, List, [], ◌∷◌, ◌++◌, map, sym, ap, arith}
use Rattle.std.specs.List.{range_with_len}

map_one_more : {X : Type 0} (f : ℕ → X) (a n : ℕ) → map f (range_with_len a (suc n)) ≡ map f (range_with_len a n) ++ f (a + n) ∷ []
map_one_more f a zero = ap (λ k. f k ∷ []) (omega arith)
map_one_more f a (suc n) =
    let same : a + 1 + n ≡ a + suc n = omega arith in
    ap (λ xs. f a ∷ xs) (map_one_more f (a + 1) n ∙ ap (λ k. map f (range_with_len (a + 1) n) ++ f k ∷ []) same)

-- a list of what a function gives for the numbers below n, and what it gives for n
pub pushed : {X : Type 0} (f : ℕ → X) (n : ℕ) (before after : List X) (x : X) → before ≡ map f (range_with_len 0 n) → x ≡ f n → after ≡ before ++ x ∷ []
    → after ≡ map f (range_with_len 0 (n + 1))
pushed f n before after x so is added =
    let more : suc n ≡ n + 1 = omega arith in
    let at : n ≡ 0 + n = omega arith in
    added ∙ ap (λ xs. xs ++ x ∷ []) so ∙ ap (λ y. map f (range_with_len 0 n) ++ y ∷ []) (is ∙ ap f at) ∙ sym (map_one_more f 0 n)
    ∙ ap (λ k. map f (range_with_len 0 k)) more
