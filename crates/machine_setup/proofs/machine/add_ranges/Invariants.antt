use Rattle.std.proofs.Common.{◌≡◌, ◌++◌, take}
use Rattle.machine_setup.specs.Prelude.{kinds_of_ranges, values_of_ranges}
use Rattle.machine_setup.proofs.machine.add_ranges.Given as goal

abbrev pub invariant-loop-r : goal.invariant-loop-r
invariant-loop-r l =
    (l.kinds ≡ l.initial.kinds ++ kinds_of_ranges (take l.r-index l.ranges))
    × (l.values ≡ l.initial.values ++ values_of_ranges (take l.r-index l.ranges))
