use Rattle.std.proofs.Common.{◌≡◌, take, flat_map}
use Rattle.slicc_ast.specs.declared.tree.name.Name.{Name}
use Rattle.slicc_plan.specs.Prelude.{number_in, checks_at}
use Rattle.slicc_flow.proofs.machine.transition_checks.Given as goal

abbrev pub invariant-loop-action : goal.invariant-loop-action
invariant-loop-action l =
    l.checks ≡ flat_map (λ (action : Name). checks_at l.actions (number_in l.names action.text)) (take l.action-index l.t.actions)
