use Rattle.slicc_plan.proofs.CountsOfSymbols.{counts_fit}
use Rattle.slicc_plan.proofs.symbol_laws.symbols_have_counts.Goals as goal

pub returns : goal.returns
returns c = counts_fit
