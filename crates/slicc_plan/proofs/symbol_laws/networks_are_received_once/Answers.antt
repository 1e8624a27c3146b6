use Rattle.slicc_plan.proofs.Received.{networks_received_once}
use Rattle.slicc_plan.proofs.symbol_laws.networks_are_received_once.Goals as goal

pub returns : goal.returns
returns c = networks_received_once
