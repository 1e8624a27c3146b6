use Rattle.std.proofs.Common.{◌≡◌, ◌++◌, ◌∷◌, [], Some, subst}
use Rattle.std.specs.Result.{OnOk}
use Rattle.action_code.specs.declared.instr.Instr.{Instr}
use Rattle.body_meaning.specs.Prelude.{reading}
use Rattle.body_code.specs.Prelude.{null}
use Rattle.emit_expressions.proofs.Adding.{added, not_added}
use Rattle.emit_statements.proofs.Pushing.{named_piece, on_ok_adds}
use Rattle.emit_statements.proofs.triggers.written_or_null.Goals as goal

pub returns-in_err-piece-in-Some : goal.returns-in_err-piece-in-Some
returns-in_err-piece-in-Some c = λ ending. not_added _ _ _ _ _ c.from_residual.ensures.1

pub returns-in_ok-piece-in-Some : goal.returns-in_ok-piece-in-Some
returns-in_ok-piece-in-Some c =
    rw c.in-Some.is (λ ending. added _ tt _ _
    (named_piece (reading c.args.s) c.args.n.now c.deref.result.now c.args.own.now.names (Some c.args.k) c.in-Some.e.now c.in_ok-piece-in-Some.field-0 c.args.code.now c.piece.new.code
    c.deref.ensures c.in_ok-piece-in-Some.ensures))

pub returns-in-None : goal.returns-in-None
returns-in-None c =
    rw c.in-None.is (λ ending. on_ok_adds (null c.args.k ∷ []) c.push.result c.args.code.now c.push.new.self
    (subst (λ (i : Instr). OnOk c.push.result (c.push.new.self ≡ c.args.code.now ++ i ∷ [])) c.null.ensures c.push.ensures.ok))
