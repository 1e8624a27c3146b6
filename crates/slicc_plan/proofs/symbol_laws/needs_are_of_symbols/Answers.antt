use Rattle.slicc_plan.proofs.Numbering.{needs_by_symbols}
use Rattle.slicc_plan.proofs.symbol_laws.needs_are_of_symbols.Goals as goal

pub returns : goal.returns
returns c = needs_by_symbols
