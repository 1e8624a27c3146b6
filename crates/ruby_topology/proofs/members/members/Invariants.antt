use Rattle.std.proofs.Common.{◌≡◌, ◌++◌, drop}
use Rattle.ruby_topology.specs.Prelude.{members_from}
use Rattle.ruby_topology.proofs.members.members.Given as goal

abbrev pub invariant-loop-machine : goal.invariant-loop-machine
invariant-loop-machine l = l.members ++ members_from l.machine (drop l.machine l.counts) ≡ members_from 0 l.counts
