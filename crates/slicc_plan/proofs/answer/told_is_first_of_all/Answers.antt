use Rattle.slicc_plan.proofs.Subjects.{told_of_all}
use Rattle.slicc_plan.proofs.answer.told_is_first_of_all.Goals as goal

pub returns : goal.returns
returns c = told_of_all
