use Rattle.emit_expressions.proofs.Adding.{not_added}
use Rattle.emit_statements.proofs.MessageSteps.{new_message}
use Rattle.emit_statements.proofs.messages.opened.Goals as goal

pub returns-in_err-push : goal.returns-in_err-push
returns-in_err-push c = not_added _ _ _ _ _ c.from_residual.ensures.1

pub returns : goal.returns
returns c =
    new_message c.args.structure c.args.t.now c.deref.result.now c.args.code.now c.push.new.self c.fields_set.new.code c.fields_set.result
    c.deref.ensures c.in_ok-push.ensures.ok c.fields_set.ensures
