use Rattle.slicc_lex.proofs.EndedTokens.{are_ended, are_few}
use Rattle.slicc_lex.proofs.laws.tokens_are_ended.Goals as goal

pub returns : goal.returns
returns c = record { ended = are_ended; few = are_few }
