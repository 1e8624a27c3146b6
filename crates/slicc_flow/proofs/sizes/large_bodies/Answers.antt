use Rattle.slicc_plan.specs.Prelude.{large_among}
use Rattle.slicc_flow.proofs.FirstOf.{first_of_three}
use Rattle.slicc_flow.proofs.sizes.large_bodies.Goals as goal

pub returns : goal.returns
returns c =
    first_of_three c.args.first c.large_among-first.result c.large_among-first-2.result c.large_among.result
    (large_among c.args.machine c.args.functions.now c.args.functions.now) (large_among c.args.machine c.args.functions.now c.args.actions.now)
    (large_among c.args.machine c.args.functions.now c.args.ports.now)
    c.large_among-first.ensures c.large_among-first-2.ensures c.large_among.ensures
