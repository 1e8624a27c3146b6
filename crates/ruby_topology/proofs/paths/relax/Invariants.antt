use Rattle.std.proofs.Common.{◌≡◌, fold, drop}
use Rattle.ruby_topology.specs.Prelude.{relaxed}
use Rattle.ruby_topology.proofs.paths.relax.Given as goal

abbrev pub invariant-loop-link : goal.invariant-loop-link
invariant-loop-link l = fold (relaxed l.u l.sum) l.marks (drop l.link-index l.links) ≡ fold (relaxed l.u l.sum) l.initial.marks l.links
