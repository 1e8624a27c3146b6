use Rattle.slicc_ast.specs.Form.Form.{literal}
use Rattle.slicc_ast.specs.Prelude.{of}
use Rattle.slicc_reading.proofs.Parts.{◌then◌, as_part, at_first, behind, match_map}
use Rattle.slicc_decl.proofs.parameters.assigned_literal.Goals as goal

pub returns-in-Ok : goal.returns-in-Ok
returns-in-Ok c =
    match_map c.literal.result c.literal.ensures.read (λ read is. c.in-Ok.ensures.read then as_part is) (λ fault is. behind c.in-Ok.ensures.read is)

pub returns-in-Err : goal.returns-in-Err
returns-in-Err c = at_first (of literal) c.in-Err.ensures.read
