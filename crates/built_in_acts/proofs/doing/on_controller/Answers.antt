use mir.Val.{SFits}
use Rattle.std.proofs.Common.{◌∙◌, refl, ap, rules, w64}
use Rattle.std.proofs.lemmas.Int.{to_z-of_z}
use Rattle.acts.specs.Act as act
use Rattle.acts.specs.Prelude.{act as done}
use Rattle.built_in_acts.proofs.Told.{silent_as, silent_fails, told_as, told_fails}
use Rattle.built_in_acts.specs.Prelude.{argument, line_named}
use Rattle.built_in_acts.proofs.doing.on_controller.Goals as goal

pub returns-in_err-read_back-in-ReadCallback : goal.returns-in_err-read_back-in-ReadCallback
returns-in_err-read_back-in-ReadCallback g c = rw c.in-ReadCallback.is (silent_fails (ap (λ n. done (act.ReadBack n c.block_at.result)) c.line_at.ensures.line ∙ ap (λ b. done (act.ReadBack (line_named (argument c.args.arguments.now 0)) b)) c.block_at.ensures) _ _ _ _ _ c.in_err-read_back-in-ReadCallback.ensures c.from_residual.ensures.1)

pub returns-in_ok-read_back-in-ReadCallback : goal.returns-in_ok-read_back-in-ReadCallback
returns-in_ok-read_back-in-ReadCallback g c = rw c.in-ReadCallback.is (silent_as (ap (λ n. done (act.ReadBack n c.block_at.result)) c.line_at.ensures.line ∙ ap (λ b. done (act.ReadBack (line_named (argument c.args.arguments.now 0)) b)) c.block_at.ensures) _ _ _ c.in_ok-read_back-in-ReadCallback.ensures)

pub returns-in_err-block-in-WriteCallback : goal.returns-in_err-block-in-WriteCallback
returns-in_err-block-in-WriteCallback g c = rw c.in-WriteCallback.is (told_fails (ap (λ n. done (act.WriteBack n c.block_at-in-WriteCallback.result)) c.line_at-in-WriteCallback.ensures.line ∙ ap (λ b. done (act.WriteBack (line_named (argument c.args.arguments.now 0)) b)) c.block_at-in-WriteCallback.ensures) _ _ _ _ _ _ c.in_err-block-in-WriteCallback.ensures c.from_residual-in_err-block-in-WriteCallback.ensures.1)

pub returns-in_ok-block-in-WriteCallback : goal.returns-in_ok-block-in-WriteCallback
returns-in_ok-block-in-WriteCallback g c = rw c.in-WriteCallback.is (told_as (ap (λ n. done (act.WriteBack n c.block_at-in-WriteCallback.result)) c.line_at-in-WriteCallback.ensures.line ∙ ap (λ b. done (act.WriteBack (line_named (argument c.args.arguments.now 0)) b)) c.block_at-in-WriteCallback.ensures) _ _ _ _ _ c.in_ok-block-in-WriteCallback.ensures refl)

pub returns-in_err-set_state-in-SetState : goal.returns-in_err-set_state-in-SetState
returns-in_err-set_state-in-SetState g c = rw c.in-SetState.is (silent_fails (ap (λ n. done (act.SetState n c.member_at.result)) c.line_at-in-SetState.ensures.line ∙ ap (λ b. done (act.SetState (line_named (argument c.args.arguments.now 0)) b)) c.member_at.ensures) _ _ _ _ _ c.in_err-set_state-in-SetState.ensures c.from_residual-in_err-set_state-in-SetState.ensures.1)

pub returns-in_ok-set_state-in-SetState : goal.returns-in_ok-set_state-in-SetState
returns-in_ok-set_state-in-SetState g c = rw c.in-SetState.is (silent_as (ap (λ n. done (act.SetState n c.member_at.result)) c.line_at-in-SetState.ensures.line ∙ ap (λ b. done (act.SetState (line_named (argument c.args.arguments.now 0)) b)) c.member_at.ensures) _ _ _ c.in_ok-set_state-in-SetState.ensures)

pub returns-in-Me : goal.returns-in-Me
returns-in-Me g c = rw c.in-Me.is (told_as refl _ _ _ _ _ c.me.ensures refl)

pub returns-in-Cycle : goal.returns-in-Cycle
returns-in-Cycle g c = let fits : SFits w64 c.cycle.result = search rules in rw (c.in-Cycle.is, to_z-of_z w64 c.cycle.result fits) c.cycle.ensures
