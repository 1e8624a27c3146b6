use Rattle.slicc_plan.proofs.NumberedTypes.{types_numbered}
use Rattle.slicc_plan.proofs.symbol_laws.types_have_numbers.Goals as goal

pub returns : goal.returns
returns c = types_numbered
