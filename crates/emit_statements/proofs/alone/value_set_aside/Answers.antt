use Rattle.std.proofs.Common.{◌∙◌, ◌++◌, ◌∷◌, [], ℕ, ap, refl, true}
use Rattle.action_code.specs.declared.instr.Instr.TheVariants as instr
use Rattle.emit_statements.proofs.Following.{line_wrote, with_these, without_line}
use Rattle.emit_statements.proofs.alone.value_set_aside.Goals as goal

pub returns-in_err-slot : goal.returns-in_err-slot
returns-in_err-slot c = without_line _ _ _ _ _ _ c.from_residual.ensures.1

pub returns-in_err-push : goal.returns-in_err-push
returns-in_err-push c = without_line _ _ _ _ _ _ c.from_residual-in_err-push.ensures.1

pub returns : goal.returns
returns c =
    line_wrote _ true _ _ _ refl (with_these c.args.own.now.names _ _ c.in_ok-slot.ensures.locals)
    (c.in_ok-push.ensures.ok ∙ ap (λ (x : ℕ). c.args.code.now ++ instr.Store x ∷ []) c.in_ok-slot.ensures.slot)
