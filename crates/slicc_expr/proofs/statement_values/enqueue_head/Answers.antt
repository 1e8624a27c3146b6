use Rattle.std.proofs.Common.{◌-◌}
use Rattle.slicc_ast.specs.Prelude.{latency_parts, ◌▸◌, optional}
use Rattle.slicc_ast.specs.declared.tree.token.Sign.TheVariants.{Comma}
use Rattle.slicc_ast.specs.Parts.{sign}
use Rattle.slicc_reading.proofs.Parts.{at_first, behind}
use Rattle.slicc_expr.specs.Prelude.{port_and_message, port_and_message_parts, value_after}
use Rattle.slicc_ast.specs.Names.{sign as sign_of}
use Rattle.slicc_ast.specs.declared.tree.token.Sign.TheVariants.{CloseParenthesis}
use Rattle.slicc_reading.proofs.Choices.{fault_in_nesting}
use Rattle.slicc_reading.proofs.GoingOn.{calls, fewer}
use Rattle.slicc_expr.proofs.statement_values.enqueue_head.Goals as goal

pub returns-in-Ok-port_and_message : goal.returns-in-Ok-port_and_message
returns-in-Ok-port_and_message c =
    let inner = c.joined.ensures.read (c.args.room - 1) port_and_message (optional (value_after Comma)) port_and_message_parts latency_parts c.in-Ok.inside.now c.in-Ok-port_and_message.behind.now
    c.in-Ok-port_and_message.ensures c.latency.ensures in
    let read = c.ended.ensures.read (port_and_message ▸ (optional (value_after Comma))) (λ head others. port_and_message_parts head.0 (latency_parts head.1 others)) c.in-Ok.inside.now inner in
    record {
      read = calls ((port_and_message ▸ (optional (value_after Comma))) ▸ sign CloseParenthesis) (λ head others. port_and_message_parts head.0 (latency_parts head.1 (sign_of CloseParenthesis others))) c.ended.result c.in-Ok.ensures.called read;
      shorter = fewer (c.args.room - 1) ((port_and_message ▸ (optional (value_after Comma))) ▸ sign CloseParenthesis) c.in-Ok.inside.now (λ head others. port_and_message_parts head.0 (latency_parts head.1 (sign_of CloseParenthesis others))) c.ended.result c.in-Ok.ensures.shorter read;
    }

pub returns-in-Err-port_and_message-clause-read : goal.returns-in-Err-port_and_message-clause-read
returns-in-Err-port_and_message-clause-read c =
    behind c.in-Ok.ensures.called.is_head (fault_in_nesting c.in-Ok.ensures.called.opened (at_first ((optional (value_after Comma)) ▸ sign CloseParenthesis) c.in-Err-port_and_message.ensures))

pub returns-in-Err-clause-read : goal.returns-in-Err-clause-read
returns-in-Err-clause-read c =
    c.in-Err.ensures.refused _
