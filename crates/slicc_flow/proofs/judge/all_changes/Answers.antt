use Rattle.std.proofs.Common.{◌∙◌, ap}
use Rattle.slicc_plan.specs.Prelude.{changes_among, first_after}
use Rattle.slicc_flow.specs.Prelude.{changes_of, each_from}
use Rattle.slicc_flow.proofs.Judged.{each_step}
use Rattle.slicc_flow.proofs.judge.all_changes.Goals as goal

pub loop-number-preserved : goal.loop-number-preserved
loop-number-preserved c =
    each_step changes_of c.args.machines.now c.loop-number.number c.index-machines-number.result c.loop-number.first c.in_ok-first.first c.args.first
    (each_from changes_of 0 c.args.machines.now) c.loop-number-test.true c.loop-number.invariant
    (c.in_ok-first.ensures
    ∙ ap (λ fs. first_after c.loop-number.first (changes_among c.loop-number.number fs c.deref-in-loop-number.result.now c.deref-in-loop-number-2.result.now)) c.deref.ensures
    ∙ ap (λ ps. first_after c.loop-number.first (changes_among c.loop-number.number c.index-machines-number.result.functions ps c.deref-in-loop-number-2.result.now)) c.deref-in-loop-number.ensures
    ∙ ap (λ xs. first_after c.loop-number.first (changes_among c.loop-number.number c.index-machines-number.result.functions c.index-machines-number.result.ports xs)) c.deref-in-loop-number-2.ensures
    ∙ ap (λ b. first_after c.loop-number.first (changes_of c.loop-number.number b)) c.index-machines-number.is)
