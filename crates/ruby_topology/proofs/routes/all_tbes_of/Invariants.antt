use Rattle.std.proofs.Common.{◌≡◌, take}
use Rattle.std.specs.List.{filter_map}
use Rattle.ruby_topology.specs.Prelude.{tbes_of}
use Rattle.ruby_topology.proofs.routes.all_tbes_of.Given as goal

abbrev pub invariant-loop-s : goal.invariant-loop-s
invariant-loop-s l = l.list ≡ filter_map (tbes_of l.machine) (take l.s-index l.said)
