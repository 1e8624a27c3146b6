use Rattle.std.proofs.Common.{ap, rules}
use Rattle.code_frame.specs.Prelude.{Window}
use Rattle.action_vm.proofs.Arms.{get_err, get_none, get_ok, over_reference}
use Rattle.action_vm.proofs.reading.get.Goals as goal

pub returns-in-None-clause-does : goal.returns-in-None-clause-does
returns-in-None-clause-does g c = get_none c.args.f (g.T.Local.view c.args.local.now) (g.T.Local.view c.args.local.now) _ _ _ _ (over_reference _ _ _ c.in-None.ensures.stack) (search rules)

pub returns-in_err-v-in-Some-clause-does : goal.returns-in_err-v-in-Some-clause-does
returns-in_err-v-in-Some-clause-does g c = get_err c.args.f (g.T.Local.view c.args.local.now) (g.T.Local.view c.args.local.now) _ _ _ c.in-Some.r _ _ (over_reference _ _ _ c.in-Some.ensures.stack) c.in_err-v-in-Some.ensures c.from_residual.ensures.1

pub returns-in_ok-push_copied-in-Some-clause-does : goal.returns-in_ok-push_copied-in-Some-clause-does
returns-in_ok-push_copied-in-Some-clause-does g c = get_ok c.args.f (g.T.Local.view c.args.local.now) (g.T.Local.view c.args.local.now) _ _ _ c.in-Some.r _ (over_reference _ _ _ c.in-Some.ensures.stack) c.in_ok-v-in-Some.ensures (ap (λ (w : Window). w.stack) c.in_ok-push_copied-in-Some.ensures)
