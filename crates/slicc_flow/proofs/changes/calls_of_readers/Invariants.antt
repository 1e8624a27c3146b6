use Rattle.std.proofs.Common.{◌≡◌, take}
use Rattle.slicc_plan.specs.Prelude.{reading_calls}
use Rattle.slicc_flow.proofs.changes.calls_of_readers.Given as goal

abbrev pub invariant-loop-b : goal.invariant-loop-b
invariant-loop-b l = l.calls ≡ reading_calls (take l.b-index l.ports) l.fn.asked
