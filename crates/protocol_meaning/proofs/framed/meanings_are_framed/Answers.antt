use Rattle.protocol_meaning.proofs.FramedMeanings.{meanings_framed}
use Rattle.protocol_meaning.proofs.framed.meanings_are_framed.Goals as goal

pub returns : goal.returns
returns c = meanings_framed
