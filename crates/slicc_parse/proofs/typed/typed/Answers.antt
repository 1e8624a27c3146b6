use Rattle.slicc_ast.specs.Prelude.{declaration_end, of}
use Rattle.slicc_reading.proofs.Parts.{at_first, behind_read, match_map, read_behind}
use Rattle.slicc_parse.proofs.typed.typed.Goals as goal

pub returns-in-Ok : goal.returns-in-Ok
returns-in-Ok c =
    match_map c.declaration_end.result c.declaration_end.ensures (λ read is. read_behind c.in-Ok.ensures.read is) (λ fault is. behind_read c.in-Ok.ensures.read is)

pub returns-in-Err : goal.returns-in-Err
returns-in-Err c = at_first (of declaration_end) c.in-Err.ensures.read
