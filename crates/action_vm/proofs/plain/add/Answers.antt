use mir.Val.{SFits}
use Rattle.std.proofs.Common.{rules, w64}
use Rattle.std.proofs.lemmas.Int.{to_z-of_z}
use Rattle.action_vm.proofs.Arms.{sum_does}
use Rattle.action_vm.proofs.plain.add.Goals as goal

pub returns-clause-does : goal.returns-clause-does
returns-clause-does c l =
    let fits_a : SFits w64 c.pop_int-a.result = search rules in
    let fits_b : SFits w64 c.pop_int-b.result = search rules in
    sum_does _ _ _ _ c.pop_int-a.result c.pop_int-b.result _ _ l c.pop_int-b.ensures.stack c.pop_int-a.ensures.stack (c.put.ensures.does l)
    (rw (to_z-of_z w64 c.pop_int-a.result fits_a, to_z-of_z w64 c.pop_int-b.result fits_b) at c.sum.ensures)
