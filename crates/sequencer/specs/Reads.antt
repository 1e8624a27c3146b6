-- Which outstanding requests a driver can see: the oldest, which is the one of the least issue cycle, and of those the one of the
-- least line; and by line one after another.
use Rattle.std.specs.Prelude.{◌≡◌, ◌<◌, ◌≤◌, ◌⊎◌, ℕ, Bool, true, Option, None, Some, List, [], ◌∷◌, nat_lt, if◌then◌else◌}
use Rattle.std.specs.FinMap as map
use Rattle.std.specs.List.{filter}
use Rattle.ruby_value.specs.declared.asked.Asked.{Asked}
use Rattle.ruby_value.specs.Prelude.{Requests, request_for, first_of}

-- the outstanding requests by ascending line
abbrev pub by_line : Requests → List Asked
by_line r = map.values r.outstanding

abbrev pub older : Asked → Option Asked → Asked
older a None = a
older a (Some b) = if nat_lt b.issued a.issued then b else a

-- the first of those that were issued first
abbrev pub oldest_of : List Asked → Option Asked
oldest_of [] = None
oldest_of (a ∷ rest) = Some (older a (oldest_of rest))

abbrev pub oldest : Requests → Option Asked
oldest r = oldest_of (by_line r)

-- its line is above the given one, if one is given
abbrev pub is_above : Option ℕ → Asked → Bool
is_above None a = true
is_above (Some line) a = nat_lt line a.line

-- the outstanding request of the least line above the given one, or of the least line
abbrev pub next_after : Requests → Option ℕ → Option Asked
next_after r line = first_of (filter (is_above line) (by_line r))

-- one request was issued before another, or as early for no greater line
abbrev pub IsNoLater : Asked → Asked → Type 0
IsNoLater a b = (a.issued < b.issued) ⊎ ((a.issued ≡ b.issued) × (a.line ≤ b.line))

-- it is outstanding, and each outstanding request is no earlier
pub record IsFirst (r : Requests) (a : Asked) : Type 0 where
  pub outstanding : request_for r a.line ≡ Some a
  pub first : (line : ℕ) (other : Asked) → request_for r line ≡ Some other → IsNoLater a other

-- the same as a relation: the first of the outstanding requests, or none where none is outstanding
abbrev pub IsOldest : Requests → Option Asked → Type 0
IsOldest r None = (line : ℕ) (a : Asked) → request_for r line ≡ Some a → ⊥
IsOldest r (Some a) = IsFirst r a
