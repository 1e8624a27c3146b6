use Rattle.slicc_ast.specs.Prelude.{mode_parts, type_name, type}
use Rattle.slicc_ast.specs.Names.{sign}
use Rattle.slicc_ast.specs.declared.tree.token.Sign.TheVariants.{Comma}
use Rattle.slicc_reading.proofs.GoingOn.{fewer, weaker}
use Rattle.slicc_reading.proofs.Parts.{as_part, at_first, match_map}
use Rattle.slicc_expr.specs.Prelude.{mode_part}
use Rattle.slicc_expr.proofs.values.cast_head.Goals as goal

pub returns-in-Ok-clause-read : goal.returns-in-Ok-clause-read
returns-in-Ok-clause-read c =
    c.joined.ensures.read c.args.room _ mode_part (λ target others. type_name target (sign Comma others)) mode_parts _ _
    (c.in-Ok.ensures.read type type_name _ (match_map c.type_name.result c.type_name.ensures.read (λ read is. as_part is) (λ fault is. is)))
    c.optional_mode.ensures

pub returns-in-Ok-clause-shorter : goal.returns-in-Ok-clause-shorter
returns-in-Ok-clause-shorter c =
    c.joined.ensures.shorter _ (fewer c.args.room mode_part c.in-Ok.behind.now mode_parts c.optional_mode.result
    (c.in-Ok.ensures.shorter _ (weaker _ c.type_name.result c.type_name.ensures.shorter)) c.optional_mode.ensures)

pub returns-in-Err-clause-read : goal.returns-in-Err-clause-read
returns-in-Err-clause-read c =
    at_first mode_part (c.in-Err.ensures.read type type_name _ (match_map c.type_name.result c.type_name.ensures.read (λ read is. as_part is) (λ fault is. is)))
