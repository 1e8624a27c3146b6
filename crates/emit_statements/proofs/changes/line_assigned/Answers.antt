use Rattle.body_meaning.specs.Prelude.{reading}
use Rattle.body_code.specs.Prelude.{piece_behind}
use Rattle.emit_statements.proofs.ChangeSteps.{assigned_line}
use Rattle.emit_statements.proofs.Following.{without_line}
use Rattle.emit_statements.proofs.Pushing.{named_behind}
use Rattle.emit_statements.proofs.changes.line_assigned.Goals as goal

pub returns-in_err-x : goal.returns-in_err-x
returns-in_err-x c = λ e start first. without_line _ _ _ _ _ _ c.from_residual.ensures.1

pub returns-in_err-push : goal.returns-in_err-push
returns-in_err-push c = λ e start first. without_line _ _ _ _ _ _ c.from_residual-in_err-push.ensures.1

pub returns-in_err-piece_behind : goal.returns-in_err-piece_behind
returns-in_err-piece_behind c = λ e start first. without_line _ _ _ _ _ _ c.from_residual-in_err-piece_behind.ensures.1

pub returns-in_err-push-2 : goal.returns-in_err-push-2
returns-in_err-push-2 c = λ e start first. without_line _ _ _ _ _ _ c.from_residual-in_err-push-2.ensures.1

pub returns-in_err-push-3 : goal.returns-in_err-push-3
returns-in_err-push-3 c = λ e start first. without_line _ _ _ _ _ _ c.from_residual-in_err-push-3.ensures.1

pub returns : goal.returns
returns c = λ e start first.
    assigned_line (piece_behind (reading c.args.s) c.args.n.now c.args.own.now.names c.args.inner.now c.args.before.now).code c.args.k c.args.f c.args.own.now
    e c.scratch_for.new.locals c.in_ok-x.x start c.args.code.now c.push.new.self c.piece_behind.new.code c.push-2.new.self c.push-3.new.self
    c.in_ok-x.ensures.slot c.in_ok-x.ensures.locals first c.in_ok-push.ensures.ok
    (named_behind (reading c.args.s) c.args.n.now c.deref.result.now c.args.own.now.names c.args.inner.now c.args.before.now c.in_ok-piece_behind.field-0 c.push.new.self c.piece_behind.new.code
    c.deref.ensures c.in_ok-piece_behind.ensures)
    c.in_ok-push-2.ensures.ok c.in_ok-push-3.ensures.ok
