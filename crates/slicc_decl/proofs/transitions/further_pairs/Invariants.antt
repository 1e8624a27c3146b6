use Rattle.std.proofs.Common.{length}
use Rattle.slicc_ast.specs.Form.Form.{pair}
use Rattle.slicc_ast.specs.Prelude.{◌▸◌, comma, of}
use Rattle.slicc_decl.specs.Prelude.{pair_parts}
use Rattle.slicc_reading.proofs.Repeats.{AreRepeated}
use Rattle.slicc_decl.proofs.transitions.further_pairs.Given as goal

abbrev pub invariant-commas : goal.invariant-commas
invariant-commas l = AreRepeated pair_parts l.room (comma ▸ of pair) l.start l.tokens l.items l.left

abbrev pub decreases-commas : goal.decreases-commas
decreases-commas l = length l.left
