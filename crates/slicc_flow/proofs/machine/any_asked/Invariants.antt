use Rattle.std.proofs.Common.{◌≡◌, drop}
use Rattle.slicc_flow.proofs.Asked.{asked_among}
use Rattle.slicc_flow.proofs.machine.any_asked.Given as goal

abbrev pub invariant-loop-d : goal.invariant-loop-d
invariant-loop-d l = asked_among l.ds ≡ asked_among (drop l.d-index l.ds)
