use Rattle.std.proofs.Common.{◌∙◌, ◌++◌, ap}
use Rattle.slicc_plan.specs.Prelude.{large_among, first_after}
use Rattle.slicc_flow.specs.Prelude.{each_from, large_of}
use Rattle.slicc_flow.proofs.Judged.{each_step}
use Rattle.slicc_flow.proofs.judge.all_large.Goals as goal

pub loop-number-preserved : goal.loop-number-preserved
loop-number-preserved c =
    each_step large_of c.args.machines.now c.loop-number.number c.index-machines-number.result c.loop-number.first c.in_ok-first.first c.args.first
    (each_from large_of 0 c.args.machines.now) c.loop-number-test.true c.loop-number.invariant
    (c.in_ok-first.ensures
    ∙ ap (λ fs. first_after c.loop-number.first ((large_among c.loop-number.number fs fs ++ large_among c.loop-number.number fs c.deref-in-loop-number.result.now) ++ large_among c.loop-number.number fs c.deref-in-loop-number-2.result.now)) c.deref.ensures
    ∙ ap (λ xs. first_after c.loop-number.first ((large_among c.loop-number.number c.index-machines-number.result.functions c.index-machines-number.result.functions ++ large_among c.loop-number.number c.index-machines-number.result.functions xs) ++ large_among c.loop-number.number c.index-machines-number.result.functions c.deref-in-loop-number-2.result.now)) c.deref-in-loop-number.ensures
    ∙ ap (λ xs. first_after c.loop-number.first ((large_among c.loop-number.number c.index-machines-number.result.functions c.index-machines-number.result.functions ++ large_among c.loop-number.number c.index-machines-number.result.functions c.index-machines-number.result.actions) ++ large_among c.loop-number.number c.index-machines-number.result.functions xs)) c.deref-in-loop-number-2.ensures
    ∙ ap (λ b. first_after c.loop-number.first (large_of c.loop-number.number b)) c.index-machines-number.is)
