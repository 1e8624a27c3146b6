use Rattle.std.proofs.Common.{take}
use Rattle.slicc_plan.specs.Prelude.{IsFirstOf}
use Rattle.slicc_plan.proofs.broken.first_broken.Given as goal

abbrev pub invariant-loop-b : goal.invariant-loop-b
invariant-loop-b l = IsFirstOf (take l.b-index l.broken) l.first
