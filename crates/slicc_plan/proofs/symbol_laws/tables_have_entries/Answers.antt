use Rattle.slicc_plan.proofs.Rooms.{tables_roomy}
use Rattle.slicc_plan.proofs.symbol_laws.tables_have_entries.Goals as goal

pub returns : goal.returns
returns c = tables_roomy
