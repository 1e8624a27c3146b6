use Rattle.std.proofs.Common.{◌≡◌, drop}
use Rattle.ruby_topology.specs.Prelude.{first_some, jitter_in, jitter_said}
use Rattle.ruby_topology.proofs.said.jitter_said.Given as goal

abbrev pub invariant-loop-s : goal.invariant-loop-s
invariant-loop-s l = first_some (jitter_in) (drop l.s-index l.said) ≡ jitter_said l.said
