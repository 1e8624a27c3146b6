use Rattle.std.proofs.Common.{◌∙◌, ap}
use Rattle.slicc_plan.specs.Prelude.{circles_among, first_after}
use Rattle.slicc_flow.specs.Prelude.{circles_of, each_from}
use Rattle.slicc_flow.proofs.Judged.{each_step}
use Rattle.slicc_flow.proofs.judge.all_circles.Goals as goal

pub loop-number-preserved : goal.loop-number-preserved
loop-number-preserved c =
    each_step circles_of c.args.machines.now c.loop-number.number c.index-machines-number.result c.loop-number.first c.in_ok-first.first c.args.first
    (each_from circles_of 0 c.args.machines.now) c.loop-number-test.true c.loop-number.invariant
    (c.in_ok-first.ensures
    ∙ ap (λ fs. first_after c.loop-number.first (circles_among c.loop-number.number fs)) c.deref.ensures
    ∙ ap (λ b. first_after c.loop-number.first (circles_of c.loop-number.number b)) c.index-machines-number.is)
