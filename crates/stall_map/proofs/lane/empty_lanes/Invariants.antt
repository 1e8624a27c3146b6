use Rattle.std.proofs.Common.{◌≡◌, length}
use Rattle.std.specs.List.{All}
use Rattle.stall_map.specs.Prelude.{IsWide}
use Rattle.stall_map.proofs.lane.empty_lanes.Given as goal

abbrev pub invariant-loop : goal.invariant-loop
invariant-loop l = (length l.pool.items ≡ l.counter) × All (IsWide l.places) l.pool.items
