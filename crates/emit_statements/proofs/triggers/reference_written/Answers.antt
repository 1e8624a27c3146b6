use Rattle.std.proofs.Common.{◌≡◌, ◌++◌, ◌∷◌, [], subst}
use Rattle.std.specs.Result.{OnOk}
use Rattle.action_code.specs.declared.instr.Instr.{Instr}
use Rattle.body_code.specs.Prelude.{null}
use Rattle.emit_statements.proofs.Pushing.{on_ok_adds}
use Rattle.emit_statements.proofs.triggers.reference_written.Goals as goal

pub returns-then-is_there : goal.returns-then-is_there
returns-then-is_there c = rw c.if-is_there.true c.written_or_null.ensures

pub returns-else-is_there : goal.returns-else-is_there
returns-else-is_there c =
    rw c.if-is_there.false (λ ending. on_ok_adds (null c.args.k ∷ []) c.push.result c.args.code.now c.push.new.self
    (subst (λ (i : Instr). OnOk c.push.result (c.push.new.self ≡ c.args.code.now ++ i ∷ [])) c.null.ensures c.push.ensures.ok))
