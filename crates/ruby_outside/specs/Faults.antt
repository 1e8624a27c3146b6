-- When a count of faults rose in a call, and what it is after one more. The real counts are u64 and stand still at
-- their last value, so a count that ends there also rose: one more fault leaves it as it is. By how much a count
-- rises in a call is not said by `Rose`.
use Rattle.std.specs.Prelude.{◌≡◌, ℕ, ◌+◌, ◌-◌, ◌^◌, ◌<◌, ◌⊎◌, min}

-- a call that begins at one count and ends at the other has met a fault
abbrev pub Rose : ℕ → ℕ → Type 0
Rose before after = (before < after) ⊎ (after ≡ 2 ^ 64 - 1)

-- a count after one more, which stands still at its last value
abbrev pub counted : ℕ → ℕ
counted count = min (count + 1) (2 ^ 64 - 1)
