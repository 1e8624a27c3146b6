use Rattle.protocol_meaning.proofs.Needs.{needs_of_tries}
use Rattle.protocol_meaning.proofs.laws.needs_are_those_of_tries.Goals as goal

pub returns : goal.returns
returns c = needs_of_tries
