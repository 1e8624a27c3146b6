use Rattle.std.proofs.Common.{◌≡◌, ◌++◌, drop, take, sum}
use Rattle.ruby_topology.specs.Prelude.{ranges_from}
use Rattle.ruby_topology.proofs.members.ranges.Given as goal

abbrev pub invariant-loop-count : goal.invariant-loop-count
invariant-loop-count l =
    (l.ranges ++ ranges_from l.first (drop l.count-index l.counts) ≡ ranges_from 0 l.counts)
    × (l.first ≡ sum (take l.count-index l.counts))
