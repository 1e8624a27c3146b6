use Rattle.slicc_flow.proofs.Ways.{reaching}
use Rattle.slicc_flow.proofs.laws.reaching_is_decided.Goals as goal

pub returns : goal.returns
returns c = reaching
