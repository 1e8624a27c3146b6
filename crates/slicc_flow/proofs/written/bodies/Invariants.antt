use Rattle.std.proofs.Common.{◌≡◌, take}
use Rattle.slicc_plan.specs.Prelude.{bodies_of}
use Rattle.slicc_flow.specs.Prelude.{written_list}
use Rattle.slicc_flow.proofs.written.bodies.Given as goal

abbrev pub invariant-loop-w : goal.invariant-loop-w
invariant-loop-w l = l.bodies ≡ bodies_of l.names (written_list (take l.w-index l.written))
