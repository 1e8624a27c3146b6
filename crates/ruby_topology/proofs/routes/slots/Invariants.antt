use Rattle.std.proofs.Common.{◌≡◌, ◌++◌, drop}
use Rattle.ruby_topology.specs.Prelude.{slots_from}
use Rattle.ruby_topology.proofs.routes.slots.Given as goal

abbrev pub invariant-loop-number : goal.invariant-loop-number
invariant-loop-number l =
    l.slots ++ slots_from l.said l.number (drop l.number l.members) ≡ slots_from l.said 0 l.members
