use Rattle.std.proofs.Common.{ap, ◌∙◌, flat_map}
use Rattle.declared_types.specs.Prelude.{scope_at}
use Rattle.slicc_plan.specs.Prelude.{beyond_in_declaration, first_after}
use Rattle.slicc_names.proofs.MachinePlaces.{scope_told}
use Rattle.slicc_names.proofs.protocol.in_scope.Goals as goal

pub returns : goal.returns
returns c =
    scope_told c.args.scopes.now.trees.now (scope_at c.args.scopes.now.trees.now c.args.number) c.args.first c.in_declarations-declared.result c.in_machine.result
    (c.in_declarations-declared.ensures ∙ ap (λ ds. first_after c.args.first (flat_map beyond_in_declaration ds)) c.declarations-declarations.ensures) c.in_machine.ensures
