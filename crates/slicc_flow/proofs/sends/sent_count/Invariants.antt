use Rattle.std.proofs.Common.{◌≡◌, take}
use Rattle.std.specs.List.{count_by}
use Rattle.slicc_flow.specs.Sends.{counts_for}
use Rattle.slicc_flow.proofs.sends.sent_count.Given as goal

abbrev pub invariant-loop-other : goal.invariant-loop-other
invariant-loop-other l = l.n ≡ count_by (counts_for l.places l.buffer) (take l.other-index l.sent)
