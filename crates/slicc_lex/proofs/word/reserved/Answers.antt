use Rattle.slicc_lex.proofs.Words.{reserved_is}
use Rattle.slicc_lex.proofs.word.reserved.Goals as goal

pub returns : goal.returns
returns c = reserved_is _ _ c.first_of.ensures
