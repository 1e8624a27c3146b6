use Rattle.std.proofs.Common.{length}
use Rattle.slicc_ast.specs.Prelude.{declaration, of}
use Rattle.slicc_parse.proofs.Lists.{decl_parts}
use Rattle.slicc_reading.proofs.Repeats.{AreRepeated}
use Rattle.slicc_parse.proofs.declarations.closed_declarations.Given as goal

abbrev pub invariant-members : goal.invariant-members
invariant-members l = AreRepeated decl_parts l.room (of declaration) l.tokens l.tokens l.items.items l.left

abbrev pub decreases-members : goal.decreases-members
decreases-members l = length l.left
