use Rattle.std.proofs.Common.{length}
use Rattle.slicc_ast.specs.Form.Form.{parameter}
use Rattle.slicc_ast.specs.Prelude.{of}
use Rattle.slicc_decl.proofs.Lists.{parameter_parts}
use Rattle.slicc_reading.proofs.Repeats.{AreRepeated}
use Rattle.slicc_decl.proofs.machine_heads.parameter_list.Given as goal

abbrev pub invariant-members : goal.invariant-members
invariant-members l = AreRepeated parameter_parts l.room (of parameter) l.tokens l.tokens l.items.items l.left

abbrev pub decreases-members : goal.decreases-members
decreases-members l = length l.left
