use Rattle.protocol_meaning.proofs.Scans.{is_meaning}
use Rattle.protocol_meaning.proofs.laws.meanings_are_lawful.Goals as goal

pub returns : goal.returns
returns c = is_meaning
