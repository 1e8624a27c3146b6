use Rattle.std.proofs.Common.{◌≡◌, take}
use Rattle.std.specs.List.{filter_map}
use Rattle.ruby_topology.specs.Prelude.{link_in}
use Rattle.ruby_topology.proofs.routes.links.Given as goal

abbrev pub invariant-loop-s : goal.invariant-loop-s
invariant-loop-s l = l.links ≡ filter_map (link_in l.members) (take l.s-index l.said)
