use Rattle.std.proofs.Common.{◌∙◌, None, ap, subst}
use Rattle.body_code.specs.Prelude.{Segment}
use Rattle.emit_expressions.specs.Prelude.{Adds}
use Rattle.body_meaning.specs.Prelude.{reading}
use Rattle.std.specs.Prelude.{slice_get}
use Rattle.body_code.specs.Statements.{member_count}
use Rattle.emit_expressions.proofs.Adding.{adds}
use Rattle.emit_statements.proofs.Following.{without_line}
use Rattle.emit_statements.proofs.Pushing.{named_piece}
use Rattle.emit_statements.proofs.TriggerSteps.{about_same, value_triggered}
use Rattle.emit_statements.proofs.triggers.triggered_by_value.Goals as goal

pub returns-in_err-slot : goal.returns-in_err-slot
returns-in_err-slot c = λ ending. without_line _ _ _ _ _ _ c.from_residual.ensures.1

pub returns-in_err-piece : goal.returns-in_err-piece
returns-in_err-piece c = λ ending. without_line _ _ _ _ _ _ c.from_residual-in_err-piece.ensures.1

pub returns-in_err-push : goal.returns-in_err-push
returns-in_err-push c = λ ending. without_line _ _ _ _ _ _ c.from_residual-in_err-push.ensures.1

pub returns-in_err-about_triggered : goal.returns-in_err-about_triggered
returns-in_err-about_triggered c = λ ending. without_line _ _ _ _ _ _ c.from_residual-in_err-about_triggered.ensures.1

pub returns-in_err-event_chosen : goal.returns-in_err-event_chosen
returns-in_err-event_chosen c = λ ending. without_line _ _ _ _ _ _ c.from_residual-in_err-event_chosen.ensures.1

pub returns : goal.returns
returns c = λ ending.
    let s = reading c.args.s in
    value_triggered s c.args.n.now ending c.args.given.now c.args.own.now c.args.e.now c.scratch_for.new.locals c.in_ok-slot.slot c.member_count-count.result
    c.args.code.now c.piece.new.code c.push.new.self c.about_triggered.new.code c.event_chosen.new.code
    c.in_ok-slot.ensures.slot c.in_ok-slot.ensures.locals (c.member_count-count.ensures ∙ ap member_count (c.get.ensures ∙ ap (slice_get s.symbols.enumerations) c.from.ensures))
    (named_piece s c.args.n.now c.deref.result.now c.args.own.now.names None c.args.e.now c.in_ok-piece.field-0 c.args.code.now c.piece.new.code c.deref.ensures c.in_ok-piece.ensures)
    c.in_ok-push.ensures.ok (subst (λ (about : Segment). Adds about c.push.new.self c.about_triggered.new.code) (about_same s c.args.n.now ending c.args.own.now c.scratch_for.new.locals c.args.given.now)
    (adds _ _ _ _ (c.in_ok-about_triggered.ensures ending))) (adds _ _ _ _ c.in_ok-event_chosen.ensures)
