use Rattle.std.proofs.Common.{◌∷◌, [], false, refl}
use Rattle.action_code.specs.declared.instr.Instr.TheVariants as instr
use Rattle.body_meaning.specs.Prelude.{reading}
use Rattle.body_code.specs.Prelude.{just, piece}
use Rattle.emit_expressions.proofs.Adding.{adds_then}
use Rattle.emit_statements.proofs.Following.{line_wrote, without_line}
use Rattle.emit_statements.proofs.Pushing.{named_piece}
use Rattle.emit_statements.proofs.plain.returned.Goals as goal

pub returns-in_err-close-in-None : goal.returns-in_err-close-in-None
returns-in_err-close-in-None c = without_line _ _ _ _ _ _ c.from_residual.ensures.1

pub returns-in_err-piece-in-Some : goal.returns-in_err-piece-in-Some
returns-in_err-piece-in-Some c = without_line _ _ _ _ _ _ c.from_residual-in_err-piece-in-Some.ensures.1

pub returns-in_err-push-in-Some : goal.returns-in_err-push-in-Some
returns-in_err-push-in-Some c = without_line _ _ _ _ _ _ c.from_residual-in_err-push-in-Some.ensures.1

pub returns-in_ok-close-in-None : goal.returns-in_ok-close-in-None
returns-in_ok-close-in-None c = rw c.in-None.is (line_wrote _ false _ _ _ refl refl c.in_ok-close-in-None.ensures)

pub returns-in_ok-push-in-Some : goal.returns-in_ok-push-in-Some
returns-in_ok-push-in-Some c =
    rw c.in-Some.is (line_wrote _ false _ _ _ refl refl
    (adds_then c.args.code.now c.piece.new.code c.push.new.self (piece (reading c.args.s) c.args.n.now c.args.own.now.names c.args.ending.result c.in-Some.e).code (just (instr.Ret ∷ []))
    (named_piece (reading c.args.s) c.args.n.now c.deref.result.now c.args.own.now.names c.args.ending.result c.in-Some.e c.in_ok-piece-in-Some.field-0 c.args.code.now c.piece.new.code
    c.deref.ensures c.in_ok-piece-in-Some.ensures)
    c.in_ok-push-in-Some.ensures.ok))
