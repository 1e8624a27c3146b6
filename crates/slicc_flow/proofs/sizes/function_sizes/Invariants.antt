use Rattle.slicc_flow.specs.Prelude.{AreSizes}
use Rattle.slicc_flow.proofs.sizes.function_sizes.Given as goal

abbrev pub invariant-loop-depth : goal.invariant-loop-depth
invariant-loop-depth l = AreSizes l.functions l.depth l.sizes
