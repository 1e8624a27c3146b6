use Rattle.slicc_plan.proofs.Networks.{networks_numbered}
use Rattle.slicc_plan.proofs.symbol_laws.networks_have_numbers.Goals as goal

pub returns : goal.returns
returns c = networks_numbered
