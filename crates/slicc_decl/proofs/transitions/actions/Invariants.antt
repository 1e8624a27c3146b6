use Rattle.std.proofs.Common.{length}
use Rattle.slicc_decl.specs.Prelude.{action_parts, action_row}
use Rattle.slicc_reading.proofs.Repeats.{AreRepeated}
use Rattle.slicc_decl.proofs.transitions.actions.Given as goal

abbrev pub invariant-members : goal.invariant-members
invariant-members l = AreRepeated action_parts l.room action_row l.tokens l.tokens l.items l.left

abbrev pub decreases-members : goal.decreases-members
decreases-members l = length l.left
