use Rattle.slicc_plan.proofs.OneAnswer.{one_answer}
use Rattle.slicc_plan.proofs.answer.answer_is_one.Goals as goal

pub returns : goal.returns
returns c = one_answer
