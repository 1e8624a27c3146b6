use Rattle.slicc_front.proofs.OneFront.{one_front}
use Rattle.slicc_front.proofs.laws.fronts_are_one.Goals as goal

pub returns : goal.returns
returns c = one_front
