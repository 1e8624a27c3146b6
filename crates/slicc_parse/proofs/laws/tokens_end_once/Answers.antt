use Rattle.slicc_parse.proofs.EndedOnce.{ended_once}
use Rattle.slicc_parse.proofs.laws.tokens_end_once.Goals as goal

pub returns : goal.returns
returns c = ended_once
