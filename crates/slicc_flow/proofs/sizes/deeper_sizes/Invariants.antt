use Rattle.std.proofs.Common.{◌≡◌, take}
use Rattle.slicc_flow.specs.Prelude.{next_sizes}
use Rattle.slicc_flow.proofs.sizes.deeper_sizes.Given as goal

abbrev pub invariant-loop-b : goal.invariant-loop-b
invariant-loop-b l = l.deeper ≡ next_sizes (take l.b-index l.functions) l.sizes
