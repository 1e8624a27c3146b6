use Rattle.protocol_meaning.proofs.Fired.{rounds_stay}
use Rattle.protocol_meaning.proofs.laws.fired_rounds_stay.Goals as goal

pub returns : goal.returns
returns c = rounds_stay
