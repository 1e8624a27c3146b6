use Rattle.std.proofs.Common.{length}
use Rattle.slicc_decl.specs.Prelude.{symbol_parts, symbol_row}
use Rattle.slicc_reading.proofs.Repeats.{AreRepeated}
use Rattle.slicc_decl.proofs.members.symbols.Given as goal

abbrev pub invariant-members : goal.invariant-members
invariant-members l = AreRepeated symbol_parts l.room symbol_row l.tokens l.tokens l.items l.left

abbrev pub decreases-members : goal.decreases-members
decreases-members l = length l.left
