use Rattle.std.proofs.Common.{◌-◌, ◌∙◌, refl, ap, arith}
use Rattle.slicc_plan.specs.Prelude.{machines_of, in_each_from, first_after}
use Rattle.machine_rules.proofs.Scopes.{all_scopes, one_scope}
use Rattle.machine_rules.proofs.rule.first_in_machines.Goals as goal

pub loop-scope-preserved : goal.loop-scope-preserved
loop-scope-preserved g c =
    let trees = c.args.scopes.now.trees.now in
    one_scope (g.R.MachineRule.found_in trees) (machines_of trees) c.loop-scope.scope (c.loop-scope.scope - 1) c.args.first c.loop-scope.found c.in_ok-found.found
    (omega arith) (omega arith) refl c.loop-scope.invariant c.in_ok-found.ensures

pub returns : goal.returns
returns g c =
    let trees = c.args.scopes.now.trees.now in
    c.loop-scope.invariant ∙ ap (λ ms. first_after c.args.first (in_each_from 0 (g.R.MachineRule.found_in trees) ms)) (all_scopes (machines_of trees) c.loop-scope.scope (omega arith))
