use mir.Val.{SFits}
use Rattle.std.proofs.Common.{rules, w64}
use Rattle.std.proofs.lemmas.Int.{to_z-of_z}
use Rattle.action_vm.proofs.Arms.{negation_does}
use Rattle.action_vm.proofs.plain.neg.Goals as goal

pub returns-clause-does : goal.returns-clause-does
returns-clause-does c l =
    let fits_a : SFits w64 c.pop_int-a.result = search rules in
    negation_does _ _ _ c.pop_int-a.result _ _ l c.pop_int-a.ensures.stack (rw (to_z-of_z w64 c.pop_int-a.result fits_a) at c.negation.ensures) (c.put.ensures.does l)
