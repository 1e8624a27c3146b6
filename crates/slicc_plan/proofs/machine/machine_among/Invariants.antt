use Rattle.std.proofs.Common.{◌≡◌, ◌+◌, length, take}
use Rattle.slicc_plan.specs.Prelude.{machines_among}
use Rattle.slicc_plan.proofs.machine.machine_among.Given as goal

abbrev pub invariant-loop-item : goal.invariant-loop-item
invariant-loop-item l = l.left + length (machines_among (take l.item-index l.items)) ≡ l.fn.number
