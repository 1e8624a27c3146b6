use Rattle.std.proofs.Common.{◌≡◌, [], fold, take}
use Rattle.slicc_plan.specs.Prelude.{with_number}
use Rattle.machine_table.proofs.written.once.Given as goal

abbrev pub invariant-loop-number : goal.invariant-loop-number
invariant-loop-number l = l.kept ≡ fold with_number [] (take l.number-index l.numbers)
