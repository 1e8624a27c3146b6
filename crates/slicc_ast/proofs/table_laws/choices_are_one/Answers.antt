use Rattle.slicc_ast.proofs.OneChoice.{one_choice_of_form}
use Rattle.slicc_ast.proofs.table_laws.choices_are_one.Goals as goal

pub returns : goal.returns
returns g c = one_choice_of_form
