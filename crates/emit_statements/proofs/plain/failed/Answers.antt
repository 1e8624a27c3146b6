use Rattle.std.proofs.Common.{◌∙◌, ◌++◌, ◌∷◌, [], List, ℕ, ap, false, refl}
use Rattle.ruby_value.specs.declared.fault.Fault.TheVariants as fault
use Rattle.action_code.specs.declared.instr.Instr.TheVariants as instr
use Rattle.emit_statements.proofs.Following.{line_wrote, without_line}
use Rattle.emit_statements.proofs.plain.failed.Goals as goal

pub returns-in_err-text : goal.returns-in_err-text
returns-in_err-text c = without_line _ _ _ _ _ _ c.from_residual.ensures.1

pub returns-in_err-push : goal.returns-in_err-push
returns-in_err-push c = without_line _ _ _ _ _ _ c.from_residual-in_err-push.ensures.1

pub returns : goal.returns
returns c =
    line_wrote _ false _ _ _ refl refl
    (c.in_ok-push.ensures.ok ∙ ap (λ (x : List ℕ). c.args.code.now ++ instr.Stop (fault.Error x) ∷ []) (c.in_ok-text.ensures ∙ c.deref.ensures))
