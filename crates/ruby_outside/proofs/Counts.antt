-- How a count of faults that never falls rises over several calls.
use Rattle.std.proofs.Common.{ℕ, ◌≤◌, inl, inr, arith}
use Rattle.std.proofs.Math.Nat.{eq-or-lt_of_le}
use Rattle.ruby_outside.specs.Prelude.{Rose}

-- a rise in the later of two calls is one over both
pub rose_behind : (first middle last : ℕ) → first ≤ middle → Rose middle last → Rose first last
rose_behind first middle last rest (inl more) = inl (omega arith)
rose_behind first middle last rest (inr full) = inr full

-- a rise in the earlier of two calls is one over both, as the real counts end at 2^64 - 1
pub rose_before : (first middle last : ℕ) → Rose first middle → middle ≤ last → first ≤ middle → Rose first last
rose_before first middle last (inl more) rest falls = inl (omega arith)
rose_before first middle last (inr full) rest falls = elim (eq-or-lt_of_le rest) [ inl same ↦ inr (omega (arith, full, same)) | inr below ↦ inl (omega arith) ]

-- a count that stays at 0 never rose
pub still : Rose 0 0 → ⊥
still (inl more) = omega arith
still (inr full) = omega arith
