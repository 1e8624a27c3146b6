use Rattle.slicc_plan.proofs.SetupNetworks.{buffers_typed}
use Rattle.slicc_plan.proofs.setup.network_has_one_type.Goals as goal

pub returns : goal.returns
returns c = buffers_typed
