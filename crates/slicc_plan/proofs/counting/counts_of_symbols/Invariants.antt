use Rattle.std.proofs.Common.{◌≡◌, length, take}
use Rattle.std.specs.Prelude.{sum_by}
use Rattle.slicc_plan.specs.Prelude.{events_by, pairs_by, states_by}
use Rattle.slicc_plan.proofs.counting.counts_of_symbols.Given as goal

abbrev pub invariant-loop-machine : goal.invariant-loop-machine
invariant-loop-machine l =
    (l.counts.machines ≡ length l.symbols.machines)
    × (l.counts.states ≡ sum_by states_by (take l.machine-index l.symbols.machines))
    × (l.counts.events ≡ sum_by (events_by l.symbols) (take l.machine-index l.symbols.machines))
    × (l.counts.pairs ≡ sum_by pairs_by (take l.machine-index l.symbols.machines))
