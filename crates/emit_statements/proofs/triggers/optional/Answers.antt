use Rattle.std.proofs.Common.{None}
use Rattle.body_meaning.specs.Prelude.{reading}
use Rattle.emit_expressions.proofs.Adding.{added, adds_none, not_added}
use Rattle.emit_statements.proofs.Pushing.{named_piece}
use Rattle.emit_statements.proofs.triggers.optional.Goals as goal

pub returns-in_err-piece-in-Some : goal.returns-in_err-piece-in-Some
returns-in_err-piece-in-Some c = λ ending. not_added _ _ _ _ _ c.from_residual.ensures.1

pub returns-in_ok-piece-in-Some : goal.returns-in_ok-piece-in-Some
returns-in_ok-piece-in-Some c =
    rw c.in-Some.is (λ ending. added _ tt _ _
    (named_piece (reading c.args.s) c.args.n.now c.deref.result.now c.args.own.now.names None c.in-Some.e.now c.in_ok-piece-in-Some.field-0 c.args.code.now c.piece.new.code
    c.deref.ensures c.in_ok-piece-in-Some.ensures))

pub returns-in-None : goal.returns-in-None
returns-in-None c = rw c.in-None.is (λ ending. added _ tt _ _ (adds_none _))
