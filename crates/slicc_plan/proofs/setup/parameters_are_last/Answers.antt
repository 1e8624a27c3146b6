use Rattle.slicc_plan.proofs.SetupParts.{last_table}
use Rattle.slicc_plan.proofs.setup.parameters_are_last.Goals as goal

pub returns : goal.returns
returns c = last_table
