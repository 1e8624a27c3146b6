use Rattle.std.proofs.Common.{◌-◌, count_by}
use Rattle.ruby_topology.specs.Prelude.{is_settled}
use Rattle.ruby_topology.proofs.Searches.{IsSound}
use Rattle.ruby_topology.proofs.paths.search.Given as goal

abbrev pub invariant-loop-u : goal.invariant-loop-u
invariant-loop-u l = IsSound l.links l.total l.from l.marks.items

abbrev pub decreases-loop-u : goal.decreases-loop-u
decreases-loop-u l = l.total - count_by is_settled l.marks.items
