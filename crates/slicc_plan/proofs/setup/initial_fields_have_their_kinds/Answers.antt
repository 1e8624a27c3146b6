use Rattle.slicc_plan.proofs.SetupFields.{all_begin_right}
use Rattle.slicc_plan.proofs.setup.initial_fields_have_their_kinds.Goals as goal

pub returns : goal.returns
returns c = all_begin_right
