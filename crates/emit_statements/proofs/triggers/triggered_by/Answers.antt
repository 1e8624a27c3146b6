use Rattle.std.proofs.Common.{◌∷◌, [], false, refl}
use Rattle.action_code.specs.declared.instr.Instr.TheVariants as instr
use Rattle.body_meaning.specs.Prelude.{reading}
use Rattle.body_code.specs.Prelude.{just}
use Rattle.body_code.specs.Statements.{about_triggered}
use Rattle.emit_expressions.proofs.Adding.{adds, adds_then}
use Rattle.emit_statements.proofs.Following.{line_wrote, without_line}
use Rattle.emit_statements.proofs.triggers.triggered_by.Goals as goal

pub returns-in_err-about_triggered-in-Some : goal.returns-in_err-about_triggered-in-Some
returns-in_err-about_triggered-in-Some c = λ ending. without_line _ _ _ _ _ _ c.from_residual.ensures.1

pub returns-in_err-push-in-Some : goal.returns-in_err-push-in-Some
returns-in_err-push-in-Some c = λ ending. without_line _ _ _ _ _ _ c.from_residual-in_err-push-in-Some.ensures.1

pub returns-in_ok-push-in-Some : goal.returns-in_ok-push-in-Some
returns-in_ok-push-in-Some c =
    rw c.in-Some.is (λ ending. line_wrote _ false _ _ _ refl refl
    (adds_then c.args.code.now c.about_triggered.new.code c.push.new.self (about_triggered (reading c.args.s) c.args.n.now ending c.args.given.now c.args.own.now)
    (just (instr.Trigger c.in-Some.number ∷ []))
    (adds _ _ _ _ (c.in_ok-about_triggered-in-Some.ensures ending)) c.in_ok-push-in-Some.ensures.ok))

pub returns-in-None : goal.returns-in-None
returns-in-None c = rw c.in-None.is c.triggered_by_value.ensures
