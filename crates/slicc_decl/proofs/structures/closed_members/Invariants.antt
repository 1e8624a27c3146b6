use Rattle.std.proofs.Common.{length}
use Rattle.slicc_ast.specs.Form.Form.{member}
use Rattle.slicc_ast.specs.Prelude.{of}
use Rattle.slicc_decl.proofs.Lists.{member_parts}
use Rattle.slicc_reading.proofs.Repeats.{AreRepeated}
use Rattle.slicc_decl.proofs.structures.closed_members.Given as goal

abbrev pub invariant-members : goal.invariant-members
invariant-members l = AreRepeated member_parts l.room (of member) l.tokens l.tokens l.items l.left

abbrev pub decreases-members : goal.decreases-members
decreases-members l = length l.left
