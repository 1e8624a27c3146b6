use Rattle.slicc_plan.proofs.Counted.{machines_counted}
use Rattle.slicc_plan.proofs.symbol_laws.machines_are_few.Goals as goal

pub returns : goal.returns
returns c = machines_counted
