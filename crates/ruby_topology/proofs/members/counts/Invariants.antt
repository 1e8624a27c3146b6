use Rattle.std.proofs.Common.{◌≡◌, ◌<◌, ℕ, map, is_none, false}
use Rattle.std.specs.List.{range_with_len}
use Rattle.ruby_topology.specs.Prelude.{count_or_none, count_of}
use Rattle.ruby_topology.proofs.members.counts.Given as goal

abbrev pub invariant-loop-machine : goal.invariant-loop-machine
invariant-loop-machine l =
    (l.counts ≡ map (count_or_none l.said) (range_with_len 0 l.machine))
    × ((k : ℕ) → k < l.machine → is_none (count_of l.said k) ≡ false)
