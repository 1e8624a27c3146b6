use Rattle.std.proofs.Common.{◌≡◌, length}
use Rattle.std.specs.List.{All}
use Rattle.world_state.specs.Prelude.{IsFieldRoom}
use Rattle.world_state.proofs.requests.empty_fields.Given as goal

abbrev pub invariant-loop : goal.invariant-loop
invariant-loop l = (length l.made.items ≡ l.counter) × All IsFieldRoom l.made.items
