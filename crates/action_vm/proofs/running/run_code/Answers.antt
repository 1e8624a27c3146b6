use Rattle.std.proofs.Common.{◌++◌, reverse, slice_get, sym, ap, subst, ◌∙◌}
use Rattle.action_code.specs.Prelude.{Fits}
use Rattle.code_meaning.specs.Prelude.{argument_count}
use Rattle.action_vm.proofs.RunSteps.{code_does, code_kind, has_result, may_call}
use Rattle.action_vm.proofs.running.run_code.Goals as goal

pub run-answer-requires : goal.run-answer-requires
run-answer-requires g c = record {
  fits = subst Fits (sym c.program.ensures.value) c.program.ensures.fits;
  call = may_call c.program.result.now c.args.code.now c.program.ensures.value c.args.body c.args.arguments c.push_all.new.self.stack c.new-frame.result.stack (g.T.Local.view c.args.local.now) c.requires (c.in_ok-push_all.ensures.stack ∙ ap (λ l. reverse l ++ c.new-frame.result.stack) c.into_vec.ensures);
}

pub answered-requires : goal.answered-requires
answered-requires g c = has_result c.run-answer.result c.push_all.new.self c.run-answer.new.frame (argument_count (slice_get c.program.result.now.bodies c.args.body)) c.run-answer.ensures.frame

pub returns-clause-does : goal.returns-clause-does
returns-clause-does g c = rw c.answered.ensures (code_does c.program.result.now c.args.code.now c.program.ensures.value c.args.body c.args.arguments c.push_all.new.self.stack c.new-frame.result.stack (g.T.Local.view c.args.local.now) c.requires (c.in_ok-push_all.ensures.stack ∙ ap (λ l. reverse l ++ c.new-frame.result.stack) c.into_vec.ensures) (g.T.Local.view c.run-answer.new.local) c.run-answer.new.frame.stack c.run-answer.result c.run-answer.ensures.does)

pub returns-clause-kind : goal.returns-clause-kind
returns-clause-kind g c = rw c.answered.ensures (code_kind c.program.result.now c.args.code.now c.program.ensures.value c.args.body c.args.arguments c.push_all.new.self.stack c.new-frame.result.stack (g.T.Local.view c.args.local.now) c.requires (c.in_ok-push_all.ensures.stack ∙ ap (λ l. reverse l ++ c.new-frame.result.stack) c.into_vec.ensures) (g.T.Local.view c.run-answer.new.local) c.run-answer.new.frame.stack (g.met.T.Local.lawful c.args.local.now) c.program.ensures.fits c.run-answer.result c.run-answer.ensures.does)
