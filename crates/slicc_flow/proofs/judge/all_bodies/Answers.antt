use Rattle.std.proofs.Common.{◌<◌, ◌≤◌, ◌∙◌, length, subst}
use Rattle.slicc_plan.specs.Prelude.{wide_scopes}
use Rattle.slicc_flow.proofs.Judged.{scope_step, scopes_all}
use Rattle.slicc_flow.proofs.judge.all_bodies.Goals as goal

pub loop-scope-preserved : goal.loop-scope-preserved
loop-scope-preserved c =
    let below : c.loop-scope.scope < length (wide_scopes c.args.scopes.now.trees.now) = subst (λ n. c.loop-scope.scope < n) c.len-scope-end.ensures c.loop-scope-test.true in
    scope_step c.args.scopes.now.trees.now c.loop-scope.scope c.loop-scope.list c.add_machine.new.list below c.loop-scope.invariant c.in_ok-add_machine.ensures

pub returns : goal.returns
returns c =
    let past : length (wide_scopes c.args.scopes.now.trees.now) ≤ c.loop-scope.scope = subst (λ n. n ≤ c.loop-scope.scope) c.len-scope-end.ensures c.loop-scope-test.false in
    c.loop-scope.invariant ∙ scopes_all c.args.scopes.now.trees.now c.loop-scope.scope past
