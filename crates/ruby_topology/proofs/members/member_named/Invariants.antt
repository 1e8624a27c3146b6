use Rattle.std.proofs.Common.{◌≡◌, ◌<◌, ℕ, None}
use Rattle.ruby_topology.specs.Prelude.{member_in}
use Rattle.ruby_topology.proofs.members.member_named.Given as goal

abbrev pub invariant-loop-machine : goal.invariant-loop-machine
invariant-loop-machine l = (k : ℕ) → k < l.machine → member_in l.symbols l.said l.text k ≡ None
