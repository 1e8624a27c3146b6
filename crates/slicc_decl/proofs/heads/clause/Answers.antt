use Rattle.slicc_ast.specs.Prelude.{◌▸◌, semicolon, string}
use Rattle.slicc_reading.proofs.Parts.{◌then◌, at_first, behind, match_map}
use Rattle.slicc_decl.proofs.heads.clause.Goals as goal

pub returns-in-Ok : goal.returns-in-Ok
returns-in-Ok c =
    match_map c.ended_string.result c.ended_string.ensures (λ read is. c.in-Ok.ensures.read then is) (λ fault is. behind c.in-Ok.ensures.read is)

pub returns-in-Err : goal.returns-in-Err
returns-in-Err c = at_first (string ▸ semicolon) c.in-Err.ensures.read
