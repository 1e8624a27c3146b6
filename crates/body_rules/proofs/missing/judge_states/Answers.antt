use Rattle.declared_types.specs.Prelude.{scope_at}
use Rattle.declaration_rules.proofs.Steps.{one_step}
use Rattle.body_rules.specs.Prelude.{wrong_state_of}
use Rattle.body_rules.proofs.missing.judge_states.Goals as goal

pub loop-s-preserved : goal.loop-s-preserved
loop-s-preserved c =
    one_step (wrong_state_of c.args.scopes.now.trees.now (scope_at c.args.scopes.now.trees.now c.args.number)) c.args.states.now c.loop-s.s-index c.s-item.result
    c.args.first c.loop-s.first c.judge_state-first.result c.loop-s-test.true c.s-item.is c.judge_state-first.ensures c.loop-s.invariant
