use Rattle.slicc_ast.specs.declared.tree.machine.Transition.{Transition}
use Rattle.slicc_plan.specs.Prelude.{transition_in, unanswered_at}
use Rattle.declaration_rules.proofs.Steps.{one_more_nested}
use Rattle.machine_rules.proofs.next_rules.judge_declarations.Goals as goal

pub loop-d-preserved : goal.loop-d-preserved
loop-d-preserved c =
    one_more_nested (λ (t : Transition). unanswered_at c.args.number t.next) transition_in c.args.ds.now c.loop-d.d-index c.d-item.result
    c.args.first c.loop-d.found c.judge_declaration-found.result c.loop-d-test.true c.d-item.is c.judge_declaration-found.ensures c.loop-d.invariant
