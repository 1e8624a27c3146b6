use Rattle.rules_symbols.proofs.Types.{kinds_agree}
use Rattle.rules_symbols.proofs.kinds.types_that_agree_have_one_kind.Goals as goal

pub returns : goal.returns
returns c = kinds_agree
