-- The arrivals that later copies may not come before: on an ordered virtual network the last arrival at a receiver, and
-- in an ordered buffer of the controller's own the greatest arrival of what the controller sent there; 0 where it has sent
-- nothing. A message of a driver doesn't count, nor does a recycled one. That order is kept by raising arrivals is this
-- project's own rule.
use Rattle.std.specs.Prelude.{ℕ, List, slice_get, slice_set, unwrap_or}
use Rattle.std.specs.Ordering.{nat_cmp}
use Rattle.std.specs.FinMap as map

abbrev pub Lasts : Type 0
Lasts = map.FinMap nat_cmp ℕ

abbrev pub last_at : Lasts → ℕ → ℕ
last_at lasts place = unwrap_or (map.get lasts place) 0

-- by receiver, of a network
abbrev pub lasts_on : List Lasts → ℕ → Lasts
lasts_on networks network = unwrap_or (slice_get networks network) map.empty

abbrev pub with_last : List Lasts → ℕ → ℕ → ℕ → List Lasts
with_last networks network receiver arrival =
    slice_set networks network (map.insert (lasts_on networks network) receiver arrival)
