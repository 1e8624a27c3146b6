use Rattle.std.proofs.Common.{◌≡◌, map}
use Rattle.std.specs.List.{range_with_len}
use Rattle.ruby_topology.specs.Prelude.{path_by}
use Rattle.ruby_topology.proofs.paths.computed_row.Given as goal

abbrev pub invariant-loop-to : goal.invariant-loop-to
invariant-loop-to l = l.row ≡ map (path_by l.network l.from) (range_with_len 0 l.to)
