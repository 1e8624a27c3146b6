use Rattle.slicc_plan.proofs.Networks.{networks_carry}
use Rattle.slicc_plan.proofs.symbol_laws.networks_carry_one_message.Goals as goal

pub returns : goal.returns
returns c = networks_carry
