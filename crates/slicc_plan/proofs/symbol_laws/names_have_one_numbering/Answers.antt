use Rattle.slicc_plan.proofs.Numbering.{one_numbering}
use Rattle.slicc_plan.proofs.symbol_laws.names_have_one_numbering.Goals as goal

pub returns : goal.returns
returns c = one_numbering
