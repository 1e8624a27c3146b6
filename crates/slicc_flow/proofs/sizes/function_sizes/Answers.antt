use Rattle.std.proofs.Common.{add-one, ◌∙◌, ap}
use Rattle.slicc_flow.specs.Prelude.{next_sizes}
use Rattle.slicc_flow.proofs.Caps.{deeper}
use Rattle.slicc_flow.proofs.sizes.function_sizes.Goals as goal

pub loop-depth-preserved : goal.loop-depth-preserved
loop-depth-preserved c =
    rw (add-one) (deeper c.args.functions.now c.loop-depth.depth c.loop-depth.sizes c.in_ok-sizes.sizes c.loop-depth.invariant
    (c.in_ok-sizes.ensures ∙ ap (next_sizes c.args.functions.now) c.deref.ensures))
