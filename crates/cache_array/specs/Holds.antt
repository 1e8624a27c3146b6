-- What holds of the sets that a cache is kept in: their lines are those of a lawful cache, each has a place for every way, and
-- where there is a mask, it finds a line's set as the remainder by their number does.
use Rattle.std.specs.Prelude.{◌≡◌, ◌≤◌, ◌+◌, ◌-◌, ◌^◌, ℕ, List, Option, None, Some, length, map}
use Rattle.std.specs.List.{All}
use Rattle.ruby_value.specs.Prelude.{Line, IsCache, Roomy}

-- the lines of each set
abbrev pub lines_of : List (Roomy (List Line)) → List (List Line)
lines_of sets = map (λ (s : Roomy (List Line)). s.kept) sets

abbrev pub HasPlaces : ℕ → Roomy (List Line) → Type 0
HasPlaces ways s = ways ≤ s.room + length s.kept

-- a mask of so many low bits, where the number of sets is that power of two
abbrev pub IsMask : ℕ → Option ℕ → Type 0
IsMask sets None = Unit {0}
IsMask sets (Some mask) = (k : ℕ) × (mask ≡ 2 ^ k - 1) × (sets ≡ 2 ^ k)

pub record Holds (ways : ℕ) (mask : Option ℕ) (sets : List (Roomy (List Line))) : Type 0 where
  pub is_cache : IsCache (record { ways = ways; sets = lines_of sets })
  pub places : All (HasPlaces ways) sets
  pub is_mask : IsMask (length sets) mask
