use Rattle.std.proofs.Common.{[], ◌∷◌, refl, true}
use Rattle.action_code.specs.declared.instr.Instr.TheVariants as instr
use Rattle.body_code.specs.Prelude.{just}
use Rattle.emit_expressions.proofs.Adding.{adds_then}
use Rattle.emit_statements.proofs.Following.{line_wrote, without_line}
use Rattle.emit_statements.proofs.changes.assigned_at.Goals as goal

pub returns-in_err-push-in-Local : goal.returns-in_err-push-in-Local
returns-in_err-push-in-Local c = λ e start first. without_line _ _ _ _ _ _ c.from_residual.ensures.1

pub returns-in_err-push-in-Part : goal.returns-in_err-push-in-Part
returns-in_err-push-in-Part c = λ e start first. without_line _ _ _ _ _ _ c.from_residual-in_err-push-in-Part.ensures.1

pub returns-in_ok-push-in-Local : goal.returns-in_ok-push-in-Local
returns-in_ok-push-in-Local c =
    rw c.in-Local.is (λ e start first. line_wrote _ true _ _ _ refl refl
    (adds_then start c.args.code.now c.push.new.self e (just (instr.Store c.in-Local.slot ∷ [])) first c.in_ok-push-in-Local.ensures.ok))

pub returns-in_ok-push-in-Part : goal.returns-in_ok-push-in-Part
returns-in_ok-push-in-Part c =
    rw c.in-Part.is (λ e start first. line_wrote _ true _ _ _ refl refl
    (adds_then start c.args.code.now c.push-in-Part.new.self e (just (instr.Setout c.in-Part.f.number ∷ [])) first c.in_ok-push-in-Part.ensures.ok))

pub returns-in-Line : goal.returns-in-Line
returns-in-Line c = rw c.in-Line.is c.line_assigned.ensures

pub returns-in-Nowhere : goal.returns-in-Nowhere
returns-in-Nowhere c = rw c.in-Nowhere.is (λ e start first. line_wrote _ true _ _ _ refl refl first)
