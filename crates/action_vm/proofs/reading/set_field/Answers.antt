use Rattle.std.proofs.Common.{rules}
use Rattle.action_vm.proofs.Arms.{over_reference, set_does, set_none}
use Rattle.action_vm.proofs.reading.set_field.Goals as goal

pub returns-in-None-clause-does : goal.returns-in-None-clause-does
returns-in-None-clause-does g c = set_none c.args.f (g.T.Local.view c.args.local.now) _ _ _ _ c.pop-v.result _ c.pop-v.ensures.stack (over_reference _ _ _ c.in-None.ensures.stack) (search rules)

pub returns-in-Some-clause-does : goal.returns-in-Some-clause-does
returns-in-Some-clause-does g c = set_does c.args.f (g.T.Local.view c.args.local.now) _ _ _ _ c.pop-v.result c.in-Some.r _ c.pop-v.ensures.stack (over_reference _ _ _ c.in-Some.ensures.stack) c.set.ensures
