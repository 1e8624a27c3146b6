use Rattle.std.proofs.Common.{[]}
use Rattle.body_meaning.specs.Prelude.{reading}
use Rattle.body_code.specs.Prelude.{arguments_by, piece_behind, ◌⨾◌}
use Rattle.emit_statements.specs.Prelude.{operated_by}
use Rattle.emit_statements.proofs.ChangeSteps.{changed_line}
use Rattle.emit_statements.proofs.Following.{without_line}
use Rattle.emit_statements.proofs.Pushing.{named_behind, named_change}
use Rattle.emit_statements.proofs.changes.line_changed.Goals as goal

pub returns-in_err-y : goal.returns-in_err-y
returns-in_err-y c = without_line _ _ _ _ _ _ c.from_residual.ensures.1

pub returns-in_err-x : goal.returns-in_err-x
returns-in_err-x c = without_line _ _ _ _ _ _ c.from_residual-in_err-x.ensures.1

pub returns-in_err-piece_behind : goal.returns-in_err-piece_behind
returns-in_err-piece_behind c = without_line _ _ _ _ _ _ c.from_residual-in_err-piece_behind.ensures.1

pub returns-in_err-field_opened : goal.returns-in_err-field_opened
returns-in_err-field_opened c = without_line _ _ _ _ _ _ c.from_residual-in_err-field_opened.ensures.1

pub returns-in_err-change : goal.returns-in_err-change
returns-in_err-change c = without_line _ _ _ _ _ _ c.from_residual-in_err-change.ensures.1

pub returns-in_err-field_closed : goal.returns-in_err-field_closed
returns-in_err-field_closed c = without_line _ _ _ _ _ _ c.from_residual-in_err-field_closed.ensures.1

pub returns : goal.returns
returns c =
    let s = reading c.args.s in
    changed_line (piece_behind s c.args.n.now c.args.own.now.names c.args.inner.now c.args.before.now).code c.args.k c.args.f c.args.own.now
    (arguments_by s c.args.n.now c.args.own.now.names [] c.args.given.now ⨾ operated_by c.args.operation)
    c.scratch_for.new.locals c.scratch_for-2.new.locals c.in_ok-y.y c.in_ok-x.x
    c.args.code.now c.piece_behind.new.code c.field_opened.new.code c.change.new.code c.field_closed.new.code
    c.in_ok-y.ensures.slot c.in_ok-y.ensures.locals c.in_ok-x.ensures.slot c.in_ok-x.ensures.locals
    (named_behind s c.args.n.now c.deref.result.now c.args.own.now.names c.args.inner.now c.args.before.now c.in_ok-piece_behind.field-0 c.args.code.now c.piece_behind.new.code
    c.deref.ensures c.in_ok-piece_behind.ensures)
    c.in_ok-field_opened.ensures
    (named_change s c.args.n.now c.deref-2.result.now c.args.own.now.names c.args.given.now (operated_by c.args.operation) c.in_ok-change.field-0 c.field_opened.new.code c.change.new.code
    c.deref-2.ensures c.in_ok-change.ensures)
    c.in_ok-field_closed.ensures
