use Rattle.std.proofs.Common.{ap, ◌∙◌}
use Rattle.declared_types.specs.Prelude.{scope_at}
use Rattle.slicc_plan.specs.Prelude.{first_after}
use Rattle.slicc_names.proofs.MachinePlaces.{machine_told}
use Rattle.slicc_names.proofs.protocol.in_machine.Goals as goal

pub returns-in-Within : goal.returns-in-Within
returns-in-Within c =
    c.of_machine.ensures
    ∙ ap (first_after c.args.first) (machine_told c.args.scopes.now.trees.now (scope_at c.args.scopes.now.trees.now c.args.number) _ c.in-Within.ensures)
