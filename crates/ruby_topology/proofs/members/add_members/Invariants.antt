use Rattle.std.proofs.Common.{◌≡◌, ◌++◌}
use Rattle.ruby_topology.specs.Prelude.{members_of}
use Rattle.ruby_topology.proofs.members.add_members.Given as goal

abbrev pub invariant-loop-index : goal.invariant-loop-index
invariant-loop-index l = l.members ≡ l.initial.members ++ members_of l.machine l.index
