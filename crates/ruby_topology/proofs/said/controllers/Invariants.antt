use Rattle.std.proofs.Common.{◌≡◌, take, sum_by}
use Rattle.ruby_topology.specs.Prelude.{counted}
use Rattle.ruby_topology.proofs.said.controllers.Given as goal

abbrev pub invariant-loop-s : goal.invariant-loop-s
invariant-loop-s l = l.total ≡ sum_by counted (take l.s-index l.said)
