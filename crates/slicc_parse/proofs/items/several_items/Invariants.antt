use Rattle.std.proofs.Common.{length}
use Rattle.slicc_ast.specs.Form.Form.{item}
use Rattle.slicc_ast.specs.Prelude.{of}
use Rattle.slicc_parse.proofs.Lists.{item_parts}
use Rattle.slicc_reading.proofs.Repeats.{AreSeparated}
use Rattle.slicc_parse.proofs.items.several_items.Given as goal

abbrev pub invariant-members : goal.invariant-members
invariant-members l = AreSeparated item_parts item_parts l.room (of item) (of item) l.tokens l.items.items l.left

abbrev pub decreases-members : goal.decreases-members
decreases-members l = length l.left
