-- The names of blocks that are left, one at a time.
use Rattle.std.proofs.Common.{◌≡◌, ◌<◌, ◌≤◌, ◌-◌, ℕ, suc, List, [], ◌∷◌, drop, length, remove, sym, ap, arith}
use Rattle.body_meaning.specs.declared.frame.Bound.{Bound}
use Rattle.body_meaning.specs.Prelude.{outermost}

pub outermost_more : (n : ℕ) (names : List Bound) → n < length names → outermost n (remove names 0) ≡ outermost n names
unfolding outermost
outermost_more n [] below = absurd (omega arith)
outermost_more n (b ∷ names) below =
    let less : length (b ∷ names) - n ≡ suc (length names - n) = omega arith in
    sym (ap (λ (k : ℕ). drop k (b ∷ names)) less)

pub outermost_all : (n : ℕ) (names : List Bound) → length names ≤ n → outermost n names ≡ names
unfolding outermost
outermost_all n names within = let none : length names - n ≡ 0 = omega arith in ap (λ (k : ℕ). drop k names) none
