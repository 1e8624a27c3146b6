use Rattle.run_journal.proofs.PartStates.{finals_of_parts}
use Rattle.run_journal.proofs.laws.finals_follow_from_parts.Goals as goal

pub returns : goal.returns
returns c = finals_of_parts
