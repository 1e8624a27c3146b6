use Rattle.slicc_ast.specs.Names.{name as name_parts, sign}
use Rattle.slicc_ast.specs.Prelude.{type_name, type}
use Rattle.slicc_ast.specs.declared.tree.token.Sign.TheVariants.{Comma}
use Rattle.slicc_ast.specs.Parts.{name}
use Rattle.slicc_reading.proofs.Parts.{as_part, at_first, match_map}
use Rattle.slicc_expr.proofs.statement_values.port_and_message.Goals as goal

pub returns-in-Ok : goal.returns-in-Ok
returns-in-Ok c =
    c.joined.ensures.read c.args.room _ type (λ port others. name_parts port (sign Comma others)) type_name _ _
    (c.in-Ok.ensures.read name name_parts _ (match_map c.name.result c.name.ensures.read (λ read is. as_part is) (λ fault is. is)))
    (match_map c.type_name.result c.type_name.ensures.read (λ read is. as_part is) (λ fault is. is))

pub returns-in-Err : goal.returns-in-Err
returns-in-Err c =
    at_first type (c.in-Err.ensures.read name name_parts _ (match_map c.name.result c.name.ensures.read (λ read is. as_part is) (λ fault is. is)))
