use Rattle.slicc_plan.proofs.SetupNetworks.{buffers_on_networks}
use Rattle.slicc_plan.proofs.setup.networks_are_numbered.Goals as goal

pub returns : goal.returns
returns c = buffers_on_networks
