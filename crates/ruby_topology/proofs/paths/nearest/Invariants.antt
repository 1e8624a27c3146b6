use Rattle.ruby_topology.specs.Prelude.{IsNearest}
use Rattle.ruby_topology.proofs.paths.nearest.Given as goal

abbrev pub invariant-loop-v : goal.invariant-loop-v
invariant-loop-v l = IsNearest l.marks l.v l.best
