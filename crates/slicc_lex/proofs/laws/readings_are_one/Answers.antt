use Rattle.slicc_lex.proofs.OneReading.{one_reading}
use Rattle.slicc_lex.proofs.laws.readings_are_one.Goals as goal

pub returns : goal.returns
returns c file bytes a b first second = one_reading first second
