use Rattle.protocol_meaning.proofs.Kept.{ranges_are_kept}
use Rattle.protocol_meaning.proofs.laws.calls_find_the_machines.Goals as goal

pub returns : goal.returns
returns c = ranges_are_kept
