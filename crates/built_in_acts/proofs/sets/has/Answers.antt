use Rattle.built_in_acts.proofs.Going.{is_in}
use Rattle.built_in_acts.proofs.sets.has.Goals as goal

pub returns : goal.returns
returns c = is_in c.args.members.now c.args.controller c.contains.result c.contains.ensures
