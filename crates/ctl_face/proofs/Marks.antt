-- A set of cycles stays ascending with a cycle more.
use Rattle.std.proofs.Common.{ℕ, ◌<◌, List, not, arith}
use Rattle.std.proofs.lemmas.Bool.{ltb-true}
use Rattle.std.proofs.lemmas.List.Kept.{AllPairs-from_increasing, AllPairs-filter}
use Rattle.std.specs.Bool.{nat_lt}
use Rattle.std.specs.List.Sorted.{IsStrictlyIncreasing}
use Rattle.ruby_value.specs.Prelude.{with_mark, marks_from}
use Rattle.ruby_value.proofs.Ordered.{AllPairs-insert, increasing_from_AllPairs}

pub IsStrictlyIncreasing-with_mark : (marks : List ℕ) (cycle : ℕ) → IsStrictlyIncreasing marks → IsStrictlyIncreasing (with_mark marks cycle)
IsStrictlyIncreasing-with_mark marks cycle rises =
    increasing_from_AllPairs (with_mark marks cycle)
    (AllPairs-insert (λ x y. x < y) (λ a b c first second. omega arith) (λ m. nat_lt m cycle) (λ m. nat_lt cycle m) cycle (λ a. ltb-true a cycle) (λ b. ltb-true cycle b) marks (AllPairs-from_increasing marks rises))

pub IsStrictlyIncreasing-marks_from : (cycle : ℕ) (marks : List ℕ) → IsStrictlyIncreasing marks → IsStrictlyIncreasing (marks_from cycle marks)
IsStrictlyIncreasing-marks_from cycle marks rises =
    increasing_from_AllPairs (marks_from cycle marks) (AllPairs-filter (λ x y. x < y) (λ m. not (nat_lt m cycle)) marks (AllPairs-from_increasing marks rises))
