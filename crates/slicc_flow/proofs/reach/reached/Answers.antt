use Rattle.slicc_flow.proofs.Marking.{found_right, found_size}
use Rattle.slicc_flow.proofs.reach.reached.Goals as goal

pub returns-clause-size : goal.returns-clause-size
returns-clause-size c = found_size c.args.functions.now c.args.calls.now c.in_ok-found.found c.in_ok-found.ensures

pub returns-clause-reached : goal.returns-clause-reached
returns-clause-reached c = found_right c.args.functions.now c.args.calls.now c.in_ok-found.found c.in_ok-found.ensures
