use Rattle.std.proofs.Common.{◌∷◌, [], refl, true}
use Rattle.action_code.specs.declared.instr.Instr.TheVariants as instr
use Rattle.body_meaning.specs.Prelude.{reading}
use Rattle.body_code.specs.Prelude.{arguments_by, just}
use Rattle.emit_expressions.proofs.Adding.{adds_then}
use Rattle.emit_statements.proofs.Following.{line_wrote, without_line}
use Rattle.emit_statements.proofs.Pushing.{named_arguments}
use Rattle.emit_statements.proofs.alone.reference_set.Goals as goal

pub returns-in_err-arguments : goal.returns-in_err-arguments
returns-in_err-arguments c = λ ending. without_line _ _ _ _ _ _ c.from_residual.ensures.1

pub returns-in_err-push : goal.returns-in_err-push
returns-in_err-push c = λ ending. without_line _ _ _ _ _ _ c.from_residual-in_err-push.ensures.1

pub returns : goal.returns
returns c = λ ending.
    line_wrote _ true _ _ _ refl refl
    (adds_then c.args.code.now c.arguments.new.code c.push.new.self (arguments_by (reading c.args.s) c.args.n.now c.args.own.now.names (c.args.k ∷ []) c.args.given.now)
    (just (instr.Store c.args.slot ∷ []))
    (named_arguments (reading c.args.s) c.args.n.now c.deref.result.now c.args.own.now.names (c.args.k ∷ []) c.args.given.now c.in_ok-arguments.field-0 c.args.code.now c.arguments.new.code
    c.deref.ensures c.in_ok-arguments.ensures)
    c.in_ok-push.ensures.ok)
