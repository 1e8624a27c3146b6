use Rattle.std.proofs.Common.{◌-◌}
use Rattle.slicc_ast.specs.Declarations.{pairs as pairs_parts}
use Rattle.slicc_ast.specs.Parts.{pairs, sign}
use Rattle.slicc_ast.specs.Prelude.{◌▸◌}
use Rattle.slicc_reading.proofs.Parts.{as_part, at_first, behind, match_map}
use Rattle.slicc_expr.specs.Prelude.{port_and_message, port_and_message_parts}
use Rattle.slicc_ast.specs.Names.{sign as sign_of}
use Rattle.slicc_ast.specs.declared.tree.token.Sign.TheVariants.{CloseParenthesis}
use Rattle.slicc_reading.proofs.Choices.{fault_in_nesting}
use Rattle.slicc_reading.proofs.GoingOn.{calls, fewer}
use Rattle.slicc_expr.proofs.statement_values.peek_head.Goals as goal

pub returns-in-Ok-port_and_message : goal.returns-in-Ok-port_and_message
returns-in-Ok-port_and_message c =
    let inner = c.joined.ensures.read (c.args.room - 1) port_and_message pairs port_and_message_parts pairs_parts c.in-Ok.inside.now c.in-Ok-port_and_message.behind.now
    c.in-Ok-port_and_message.ensures (match_map c.pairs.result c.pairs.ensures (λ read is. as_part is) (λ fault is. is)) in
    let read = c.ended.ensures.read (port_and_message ▸ pairs) (λ head others. port_and_message_parts head.0 (pairs_parts head.1 others)) c.in-Ok.inside.now inner in
    record {
      read = calls ((port_and_message ▸ pairs) ▸ sign CloseParenthesis) (λ head others. port_and_message_parts head.0 (pairs_parts head.1 (sign_of CloseParenthesis others))) c.ended.result c.in-Ok.ensures.called read;
      shorter = fewer (c.args.room - 1) ((port_and_message ▸ pairs) ▸ sign CloseParenthesis) c.in-Ok.inside.now (λ head others. port_and_message_parts head.0 (pairs_parts head.1 (sign_of CloseParenthesis others))) c.ended.result c.in-Ok.ensures.shorter read;
    }

pub returns-in-Err-port_and_message-clause-read : goal.returns-in-Err-port_and_message-clause-read
returns-in-Err-port_and_message-clause-read c =
    behind c.in-Ok.ensures.called.is_head (fault_in_nesting c.in-Ok.ensures.called.opened (at_first (pairs ▸ sign CloseParenthesis) c.in-Err-port_and_message.ensures))

pub returns-in-Err-clause-read : goal.returns-in-Err-clause-read
returns-in-Err-clause-read c =
    c.in-Err.ensures.refused _
