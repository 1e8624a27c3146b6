use Rattle.std.proofs.Common.{refl, sym}
use Rattle.slicc_ast.specs.Prelude.{done, of}
use Rattle.slicc_ast.specs.Form.Form.{formals}
use Rattle.slicc_reading.specs.Prelude.{spelled}
use Rattle.slicc_reading.proofs.Choices.{absent_read, present_read, fault_in_present}
use Rattle.slicc_reading.proofs.Parts.{in_alternative, match_map, of_alternative}
use Rattle.slicc_decl.proofs.Lists.{no_formals}
use Rattle.slicc_decl.proofs.signatures.optional_formals.Goals as goal

pub returns-then-is_name : goal.returns-then-is_name
returns-then-is_name c =
    match_map c.several_formals.result c.several_formals.ensures
    (λ read is. present_read (sym c.if-is_name.ensures) (of_alternative formals 0 refl (sym c.if-is_name.ensures) is))
    (λ fault is. fault_in_present (sym c.if-is_name.ensures) (in_alternative formals 0 refl (sym c.if-is_name.ensures) is))

pub returns : goal.returns
returns c = absent_read (of formals done) (sym c.if-is_name.ensures) (spelled c.span-span.ensures (no_formals c.new-items.result c.args.tokens.now c.new-items.ensures))
