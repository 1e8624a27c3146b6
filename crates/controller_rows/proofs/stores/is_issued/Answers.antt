use Rattle.controller_rows.proofs.Arriving.{issued_goes}
use Rattle.controller_rows.proofs.stores.is_issued.Goals as goal

pub returns-in-Some-clause-goes : goal.returns-in-Some-clause-goes
returns-in-Some-clause-goes c =
    issued_goes c.args.store.now c.args.routes.now c.args.now c.requires.goes c.in-Some.sequencer.now c.issue.new.self c.in-Some.ensures.value
    c.args.request c.requires.request c.issue.result c.issue.ensures.ok c.issue.ensures.refused
