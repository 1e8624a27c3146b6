use Rattle.std.proofs.Common.{length}
use Rattle.slicc_ast.specs.Form.Form.{formal}
use Rattle.slicc_ast.specs.Prelude.{◌▸◌, comma, of}
use Rattle.slicc_decl.proofs.Lists.{first_formal, further_formal}
use Rattle.slicc_reading.proofs.Repeats.{AreSeparated}
use Rattle.slicc_decl.proofs.signatures.several_formals.Given as goal

abbrev pub invariant-commas : goal.invariant-commas
invariant-commas l = AreSeparated first_formal further_formal l.room (of formal) (comma ▸ of formal) l.tokens l.items l.left

abbrev pub decreases-commas : goal.decreases-commas
decreases-commas l = length l.left
