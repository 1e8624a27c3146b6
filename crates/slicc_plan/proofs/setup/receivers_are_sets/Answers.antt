use Rattle.slicc_plan.proofs.Receivers.{buffers_name}
use Rattle.slicc_plan.proofs.setup.receivers_are_sets.Goals as goal

pub returns : goal.returns
returns c = buffers_name
