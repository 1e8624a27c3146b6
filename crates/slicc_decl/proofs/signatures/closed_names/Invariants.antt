use Rattle.std.proofs.Common.{length}
use Rattle.slicc_ast.specs.Names.{name as name_of}
use Rattle.slicc_ast.specs.Parts.{name}
use Rattle.slicc_ast.specs.Prelude.{◌▸◌, comma}
use Rattle.slicc_decl.proofs.Lists.{further_name}
use Rattle.slicc_reading.proofs.Repeats.{AreSeparated}
use Rattle.slicc_decl.proofs.signatures.closed_names.Given as goal

abbrev pub invariant-commas : goal.invariant-commas
invariant-commas l = AreSeparated name_of further_name l.room name (comma ▸ name) l.tokens l.items l.left

abbrev pub decreases-commas : goal.decreases-commas
decreases-commas l = length l.left
