use Rattle.std.proofs.Common.{◌∙◌}
use Rattle.body_meaning.specs.Prelude.{reading}
use Rattle.emit_expressions.proofs.Adding.{adds}
use Rattle.emit_statements.proofs.Following.{without_line}
use Rattle.emit_statements.proofs.MessageSteps.{sent_writes}
use Rattle.emit_statements.proofs.messages.sent.Goals as goal

pub returns-in_err-names : goal.returns-in_err-names
returns-in_err-names c = λ ending. without_line _ _ _ _ _ _ c.from_residual.ensures.1

pub returns-in_err-fields_kept : goal.returns-in_err-fields_kept
returns-in_err-fields_kept c = λ ending. without_line _ _ _ _ _ _ c.from_residual-in_err-fields_kept.ensures.1

pub returns-in_err-latency : goal.returns-in_err-latency
returns-in_err-latency c = λ ending. without_line _ _ _ _ _ _ c.from_residual-in_err-latency.ensures.1

pub returns-in_err-push : goal.returns-in_err-push
returns-in_err-push c = λ ending. without_line _ _ _ _ _ _ c.from_residual-in_err-push.ensures.1

pub returns : goal.returns
returns c = λ ending.
    sent_writes (reading c.args.s) c.args.n.now ending c.args.buffer c.args.written.now c.args.outer c.args.own.now c.fields_kept.new.own c.in_ok-names.names c.in_ok-fields_kept.field-0
    c.args.code.now c.fields_kept.new.code c.latency.new.code c.push.new.self
    (c.in_ok-names.ensures ∙ c.deref.ensures) c.in_ok-fields_kept.ensures (adds _ _ _ _ (c.in_ok-latency.ensures ending)) c.in_ok-push.ensures.ok
