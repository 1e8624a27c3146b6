use Rattle.std.proofs.Common.{sym}
use Rattle.slicc_ast.specs.Prelude.{done, ◌▸◌, semicolon, string}
use Rattle.slicc_ast.specs.declared.tree.token.Word.TheVariants.{Protocol}
use Rattle.slicc_ast.specs.Parts.{word}
use Rattle.slicc_reading.proofs.Choices.{absent, present, fault_in_present}
use Rattle.slicc_decl.proofs.heads.optional_protocol.Goals as goal

pub returns-then-not-is_word : goal.returns-then-not-is_word
returns-then-not-is_word c = absent ((word Protocol ▸ string ▸ semicolon) done) (sym c.if-not-is_word.ensures)

pub returns-in-Ok : goal.returns-in-Ok
returns-in-Ok c = present (sym c.if-not-is_word.ensures) c.in-Ok.ensures

pub returns-in-Err : goal.returns-in-Err
returns-in-Err c = fault_in_present (sym c.if-not-is_word.ensures) c.in-Err.ensures
