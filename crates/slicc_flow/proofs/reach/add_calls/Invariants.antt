use Rattle.std.proofs.Common.{◌≡◌, take}
use Rattle.slicc_flow.specs.Prelude.{with_calls}
use Rattle.slicc_flow.proofs.reach.add_calls.Given as goal

abbrev pub invariant-loop-call : goal.invariant-loop-call
invariant-loop-call l = l.found ≡ with_calls l.initial.found (take l.call-index l.calls)
