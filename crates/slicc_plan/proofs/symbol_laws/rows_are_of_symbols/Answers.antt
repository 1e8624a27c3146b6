use Rattle.slicc_plan.proofs.Numbering.{rows_by_symbols}
use Rattle.slicc_plan.proofs.symbol_laws.rows_are_of_symbols.Goals as goal

pub returns : goal.returns
returns c = rows_by_symbols
