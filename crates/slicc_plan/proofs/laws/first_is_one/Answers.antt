use Rattle.slicc_plan.proofs.Firsts.{first_rank}
use Rattle.slicc_plan.proofs.laws.first_is_one.Goals as goal

pub returns : goal.returns
returns c = first_rank
