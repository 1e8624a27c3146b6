use Rattle.std.proofs.Common.{◌≡◌, drop}
use Rattle.ruby_topology.specs.Prelude.{first_some, network_in, network_said}
use Rattle.ruby_topology.proofs.said.network_said.Given as goal

abbrev pub invariant-loop-s : goal.invariant-loop-s
invariant-loop-s l = first_some (network_in) (drop l.s-index l.said) ≡ network_said l.said
