use Rattle.std.proofs.Common.{ap, ◌∙◌, flat_map}
use Rattle.declared_types.specs.Prelude.{scope_at}
use Rattle.slicc_plan.specs.Prelude.{declared_in, beyond_in_body, first_after, bodies_in}
use Rattle.slicc_names.specs.Prelude.{kind_limits}
use Rattle.slicc_names.proofs.MachinePlaces.{limits_told}
use Rattle.slicc_names.proofs.protocol.of_machine.Goals as goal

pub returns : goal.returns
returns c =
    limits_told c.args.scopes.now.trees.now (scope_at c.args.scopes.now.trees.now c.args.number) (declared_in c.args.scopes.now.trees.now (scope_at c.args.scopes.now.trees.now c.args.number)) c.args.first c.of_kinds-kinds.result c.sequencer_limit-sequencers.result c.in_bodies.result
    (c.of_kinds-kinds.ensures ∙ ap (λ ds. first_after c.args.first (kind_limits ds)) c.declarations-declarations.ensures) c.sequencer_limit-sequencers.ensures
    (c.in_bodies.ensures ∙ ap (λ ds. first_after c.sequencer_limit-sequencers.result (flat_map beyond_in_body (flat_map bodies_in ds))) c.declarations-declarations.ensures)
