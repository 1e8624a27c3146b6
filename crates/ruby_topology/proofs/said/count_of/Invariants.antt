use Rattle.std.proofs.Common.{◌≡◌, drop}
use Rattle.ruby_topology.specs.Prelude.{first_some, count_in, count_of}
use Rattle.ruby_topology.proofs.said.count_of.Given as goal

abbrev pub invariant-loop-s : goal.invariant-loop-s
invariant-loop-s l = first_some (count_in l.machine) (drop l.s-index l.said) ≡ count_of l.said l.machine
