use Rattle.std.proofs.Common.{◌++◌, ◌∷◌, ◌∙◌, [], ap, get_or}
use Rattle.slicc_plan.specs.declared.part.Body.{Body}
use Rattle.slicc_plan.specs.Prelude.{size_with}
use Rattle.slicc_flow.specs.Prelude.{capped}
use Rattle.slicc_flow.proofs.Caps.{next_step}
use Rattle.slicc_flow.proofs.sizes.deeper_sizes.Goals as goal

pub loop-b-preserved : goal.loop-b-preserved
loop-b-preserved c =
    next_step c.args.functions.now c.args.sizes.now c.loop-b.deeper _ c.loop-b.b-index c.b-item.result c.loop-b-test.true c.loop-b.invariant
    (c.in_ok-push.ensures.ok ∙ ap (λ x. c.loop-b.deeper ++ x ∷ []) (c.size_in.ensures ∙ ap (λ (b : Body). capped (size_with (λ x. get_or c.args.sizes.now x 0) b)) c.b-item.is))
