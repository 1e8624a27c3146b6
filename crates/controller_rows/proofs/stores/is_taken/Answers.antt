use Rattle.controller_rows.proofs.Arriving.{answered_goes}
use Rattle.controller_rows.proofs.stores.is_taken.Goals as goal

pub returns-in-Some-clause-goes : goal.returns-in-Some-clause-goes
returns-in-Some-clause-goes c =
    answered_goes c.args.store.now c.args.routes.now c.args.now c.requires c.in-Some.sequencer.now c.take_done.new.self c.in-Some.ensures.value
    c.take_done.ensures.after
