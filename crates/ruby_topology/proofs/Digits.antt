-- The value of digits only grows as more of them are read.
use Rattle.std.proofs.Common.{◌≤◌, ◌+◌, ◌-◌, ◌*◌, ℕ, List, [], ◌∷◌, fold, arith}

abbrev pub value_from : ℕ → List ℕ → ℕ
value_from v digits = fold (λ v c. v * 10 + (c - 48)) v digits

pub grows : (v : ℕ) (digits : List ℕ) → v ≤ value_from v digits
grows v [] = omega arith
grows v (c ∷ digits) = omega (arith, grows (v * 10 + (c - 48)) digits)
