use Rattle.std.proofs.Common.{◌≡◌, length, map, take}
use Rattle.slicc_plan.specs.Prelude.{state_members}
use Rattle.machine_table.proofs.making.state_counts.Given as goal

abbrev pub invariant-loop-m : goal.invariant-loop-m
invariant-loop-m l = l.counts ≡ map (λ m. length (state_members m.now)) (take l.m-index l.machines)
