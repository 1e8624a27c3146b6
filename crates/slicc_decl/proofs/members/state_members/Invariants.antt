use Rattle.std.proofs.Common.{length}
use Rattle.slicc_decl.specs.Prelude.{state_parts, state_row}
use Rattle.slicc_reading.proofs.Repeats.{AreRepeated}
use Rattle.slicc_decl.proofs.members.state_members.Given as goal

abbrev pub invariant-members : goal.invariant-members
invariant-members l = AreRepeated state_parts l.room state_row l.tokens l.tokens l.items l.left

abbrev pub decreases-members : goal.decreases-members
decreases-members l = length l.left
