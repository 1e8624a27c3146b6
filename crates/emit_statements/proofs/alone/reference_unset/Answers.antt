use Rattle.std.proofs.Common.{◌∙◌, ◌++◌, ◌∷◌, [], ap, refl, true}
use Rattle.action_code.specs.declared.instr.Instr.{Instr}
use Rattle.action_code.specs.declared.instr.Instr.TheVariants as instr
use Rattle.body_code.specs.Prelude.{null}
use Rattle.emit_expressions.proofs.Adding.{adds_two}
use Rattle.emit_statements.proofs.Following.{line_wrote, without_line}
use Rattle.emit_statements.proofs.alone.reference_unset.Goals as goal

pub returns-in_err-push : goal.returns-in_err-push
returns-in_err-push c = λ s n ending. without_line _ _ _ _ _ _ c.from_residual.ensures.1

pub returns-in_err-push-2 : goal.returns-in_err-push-2
returns-in_err-push-2 c = λ s n ending. without_line _ _ _ _ _ _ c.from_residual-in_err-push-2.ensures.1

pub returns : goal.returns
returns c = λ s n ending.
    line_wrote _ true _ _ _ refl refl
    (adds_two c.args.code.now c.push.new.self c.push-2.new.self (null c.args.k) (instr.Store c.args.slot)
    (c.in_ok-push.ensures.ok ∙ ap (λ (i : Instr). c.args.code.now ++ i ∷ []) c.null.ensures) c.in_ok-push-2.ensures.ok)
