use Rattle.slicc_plan.proofs.CountsOfSymbols.{counts_by_symbols}
use Rattle.slicc_plan.proofs.symbol_laws.counts_are_of_symbols.Goals as goal

pub returns : goal.returns
returns c = counts_by_symbols
