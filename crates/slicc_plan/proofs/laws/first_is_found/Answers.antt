use Rattle.slicc_plan.proofs.Firsts.{first_after_none}
use Rattle.slicc_plan.proofs.laws.first_is_found.Goals as goal

pub returns : goal.returns
returns c = first_after_none
