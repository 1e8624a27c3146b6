use Rattle.slot_laws.proofs.SendsOfFlows.{sends_of_tries}
use Rattle.slot_laws.proofs.flows.sends_are_those_of_tries.Goals as goal

pub returns : goal.returns
returns c = sends_of_tries
