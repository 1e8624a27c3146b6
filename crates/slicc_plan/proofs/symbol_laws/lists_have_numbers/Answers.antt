use Rattle.slicc_plan.proofs.Counted.{lists_counted}
use Rattle.slicc_plan.proofs.symbol_laws.lists_have_numbers.Goals as goal

pub returns : goal.returns
returns c = lists_counted
