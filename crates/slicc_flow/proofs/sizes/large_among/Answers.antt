use Rattle.std.proofs.Common.{◌∙◌, ap}
use Rattle.slicc_plan.specs.Prelude.{large_at, first_after}
use Rattle.slicc_flow.proofs.FirstOf.{flat_step}
use Rattle.slicc_flow.proofs.sizes.large_among.Goals as goal

pub loop-b-preserved : goal.loop-b-preserved
loop-b-preserved c =
    flat_step (large_at c.args.machine c.args.functions.now) c.args.bodies.now c.loop-b.b-index c.b-item.result c.loop-b.first c.large_of-first.result c.args.first
    c.loop-b-test.true c.loop-b.invariant
    (c.large_of-first.ensures ∙ ap (λ b. first_after c.loop-b.first (large_at c.args.machine c.args.functions.now b)) c.b-item.is)
