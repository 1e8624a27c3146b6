use Rattle.std.proofs.Common.{[], ◌∷◌, None}
use Rattle.std.specs.Prelude.{pos}
use Rattle.ruby_value.specs.declared.value.Value.TheVariants as value
use Rattle.action_code.specs.declared.instr.Instr.TheVariants as instr
use Rattle.body_meaning.specs.Prelude.{reading}
use Rattle.emit_expressions.proofs.Adding.{added, not_added}
use Rattle.emit_statements.proofs.Pushing.{named_piece, on_ok_adds}
use Rattle.emit_statements.proofs.messages.latency.Goals as goal

pub returns-in_err-piece-in-Some : goal.returns-in_err-piece-in-Some
returns-in_err-piece-in-Some c = λ ending. not_added _ _ _ _ _ c.from_residual.ensures.1

pub returns-in-None : goal.returns-in-None
returns-in-None c =
    rw c.in-None.is (λ ending. on_ok_adds (instr.Push (value.Int (pos 1)) 0 ∷ []) c.push.result c.args.code.now c.push.new.self c.push.ensures.ok)

pub returns-in_ok-piece-in-Some : goal.returns-in_ok-piece-in-Some
returns-in_ok-piece-in-Some c =
    rw c.in-Some.is (λ ending. added _ tt _ _
    (named_piece (reading c.args.s) c.args.n.now c.deref.result.now c.args.own.now.names None c.in-Some.e c.in_ok-piece-in-Some.field-0 c.args.code.now c.piece.new.code
    c.deref.ensures c.in_ok-piece-in-Some.ensures))
