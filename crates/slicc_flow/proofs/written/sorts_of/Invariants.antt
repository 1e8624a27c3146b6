use Rattle.std.proofs.Common.{◌≡◌, take}
use Rattle.slicc_flow.specs.Prelude.{sorted_by}
use Rattle.slicc_flow.proofs.written.sorts_of.Given as goal

abbrev pub invariant-loop-part : goal.invariant-loop-part
invariant-loop-part l = l.sorts ≡ sorted_by (take l.part-index l.parts)
