use Rattle.slicc_ast.proofs.Lists.{derives_a_list, viable_by_lists}
use Rattle.slicc_ast.proofs.laws.every_form_has_a_list.Goals as goal

pub returns : goal.returns
returns c = record { lists = derives_a_list; viable = viable_by_lists }
