use Rattle.action_vm.specs.Prelude.{own}
use Rattle.action_vm.proofs.Arms.{inner_turn, places_left, stack_turn}
use Rattle.action_vm.proofs.turning.turn.Goals as goal

pub returns-in-Push-clause-does : goal.returns-in-Push-clause-does
returns-in-Push-clause-does g c = λ calls. rw c.in-Push.is (stack_turn _ c.push.result _ c.args.frame.now _ c.args.messages.now (g.T.Local.view c.args.local.now) _ (c.push.ensures.does (g.T.Local.view c.args.local.now)) c.push.ensures.rest c.on.ensures)

pub returns-in-Load-clause-does : goal.returns-in-Load-clause-does
returns-in-Load-clause-does g c = λ calls. rw c.in-Load.is (stack_turn _ c.load.result _ c.args.frame.now _ c.args.messages.now (g.T.Local.view c.args.local.now) _ (c.load.ensures.does (g.T.Local.view c.args.local.now)) c.load.ensures.rest c.on-in-Load.ensures)

pub returns-in-Add-clause-does : goal.returns-in-Add-clause-does
returns-in-Add-clause-does g c = λ calls. rw c.in-Add.is (stack_turn _ c.add.result _ c.args.frame.now _ c.args.messages.now (g.T.Local.view c.args.local.now) _ (c.add.ensures.does (g.T.Local.view c.args.local.now)) c.add.ensures.rest c.on-in-Add.ensures)

pub returns-in-Sub-clause-does : goal.returns-in-Sub-clause-does
returns-in-Sub-clause-does g c = λ calls. rw c.in-Sub.is (stack_turn _ c.sub.result _ c.args.frame.now _ c.args.messages.now (g.T.Local.view c.args.local.now) _ (c.sub.ensures.does (g.T.Local.view c.args.local.now)) c.sub.ensures.rest c.on-in-Sub.ensures)

pub returns-in-Mul-clause-does : goal.returns-in-Mul-clause-does
returns-in-Mul-clause-does g c = λ calls. rw c.in-Mul.is (stack_turn _ c.mul.result _ c.args.frame.now _ c.args.messages.now (g.T.Local.view c.args.local.now) _ (c.mul.ensures.does (g.T.Local.view c.args.local.now)) c.mul.ensures.rest c.on-in-Mul.ensures)

pub returns-in-Neg-clause-does : goal.returns-in-Neg-clause-does
returns-in-Neg-clause-does g c = λ calls. rw c.in-Neg.is (stack_turn _ c.neg.result _ c.args.frame.now _ c.args.messages.now (g.T.Local.view c.args.local.now) _ (c.neg.ensures.does (g.T.Local.view c.args.local.now)) c.neg.ensures.rest c.on-in-Neg.ensures)

pub returns-in-Not-clause-does : goal.returns-in-Not-clause-does
returns-in-Not-clause-does g c = λ calls. rw c.in-Not.is (stack_turn _ c.not.result _ c.args.frame.now _ c.args.messages.now (g.T.Local.view c.args.local.now) _ (c.not.ensures.does (g.T.Local.view c.args.local.now)) c.not.ensures.rest c.on-in-Not.ensures)

pub returns-in-Lt-clause-does : goal.returns-in-Lt-clause-does
returns-in-Lt-clause-does g c = λ calls. rw c.in-Lt.is (stack_turn _ c.lt.result _ c.args.frame.now _ c.args.messages.now (g.T.Local.view c.args.local.now) _ (c.lt.ensures.does (g.T.Local.view c.args.local.now)) c.lt.ensures.rest c.on-in-Lt.ensures)

pub returns-in-Le-clause-does : goal.returns-in-Le-clause-does
returns-in-Le-clause-does g c = λ calls. rw c.in-Le.is (stack_turn _ c.le.result _ c.args.frame.now _ c.args.messages.now (g.T.Local.view c.args.local.now) _ (c.le.ensures.does (g.T.Local.view c.args.local.now)) c.le.ensures.rest c.on-in-Le.ensures)

pub returns-in-Eq-clause-does : goal.returns-in-Eq-clause-does
returns-in-Eq-clause-does g c = λ calls. rw c.in-Eq.is (stack_turn _ c.eq.result _ c.args.frame.now _ c.args.messages.now (g.T.Local.view c.args.local.now) _ (c.eq.ensures.does (g.T.Local.view c.args.local.now)) c.eq.ensures.rest c.on-in-Eq.ensures)

pub returns-in-Outfield-clause-does : goal.returns-in-Outfield-clause-does
returns-in-Outfield-clause-does g c = λ calls. rw c.in-Outfield.is (stack_turn _ c.outfield.result _ c.args.frame.now _ c.args.messages.now (g.T.Local.view c.args.local.now) _ (c.outfield.ensures.does (g.T.Local.view c.args.local.now)) c.outfield.ensures.rest c.on-in-Outfield.ensures)

pub returns-in-Get-clause-does : goal.returns-in-Get-clause-does
returns-in-Get-clause-does g c = λ calls. rw c.in-Get.is (stack_turn _ c.get.result _ c.args.frame.now _ c.args.messages.now (g.T.Local.view c.args.local.now) _ c.get.ensures.does c.get.ensures.rest c.on-in-Get.ensures)

pub returns-in-Set-clause-does : goal.returns-in-Set-clause-does
returns-in-Set-clause-does g c = λ calls. rw c.in-Set.is (stack_turn _ c.set_field.result _ c.args.frame.now _ c.args.messages.now (g.T.Local.view c.args.local.now) _ c.set_field.ensures.does c.set_field.ensures.rest c.on-in-Set.ensures)

pub returns-in-Infield-clause-does : goal.returns-in-Infield-clause-does
returns-in-Infield-clause-does g c = λ calls. rw c.in-Infield.is (stack_turn _ c.infield.result _ c.args.frame.now _ c.args.messages.now (g.T.Local.view c.args.local.now) _ c.infield.ensures.does c.infield.ensures.rest c.on-in-Infield.ensures)

pub returns-in-Op-clause-does : goal.returns-in-Op-clause-does
returns-in-Op-clause-does g c = λ calls. rw c.in-Op.is (stack_turn _ c.operate.result _ c.args.frame.now _ c.args.messages.now (g.T.Local.view c.args.local.now) _ c.operate.ensures.does c.operate.ensures.rest c.on-in-Op.ensures)

pub returns-in-Peek-clause-does : goal.returns-in-Peek-clause-does
returns-in-Peek-clause-does g c = λ calls. rw c.in-Peek.is (inner_turn _ c.peek.result _ (own c.args.frame.now c.args.messages.now) _ (g.T.Local.view c.args.local.now) _ c.peek.ensures.does c.on-in-Peek.ensures)

pub returns-in-Unpeek-clause-places : goal.returns-in-Unpeek-clause-places
returns-in-Unpeek-clause-places g c = places_left (g.T.Local.view c.args.local.now) _ _ _ c.pop-closed.ensures c.requires.places

pub returns-in-Stop-clause-does : goal.returns-in-Stop-clause-does
returns-in-Stop-clause-does g c = λ calls. rw c.in-Stop.is (c.stop.ensures.does (g.T.Local.view c.args.local.now) (own c.args.frame.now c.args.messages.now))
