use Rattle.declared_types.specs.Prelude.{declarations_of}
use Rattle.slicc_names.proofs.MachinePlaces.{kind_limits_told}
use Rattle.slicc_names.proofs.protocol.of_kinds.Goals as goal

pub returns : goal.returns
returns c =
    kind_limits_told (declarations_of c.args.declarations.now) c.args.first c.wanted_limit-states.result c.wanted_limit-events.result c.kind_limit-actions.result c.kind_limit-functions.result c.kind_limit-ports.result c.kind_limit.result
    c.wanted_limit-states.ensures c.wanted_limit-events.ensures c.kind_limit-actions.ensures c.kind_limit-functions.ensures c.kind_limit-ports.ensures c.kind_limit.ensures
