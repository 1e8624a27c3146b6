use Rattle.slicc_lex.proofs.OneTree.{one_tree_spelled, one_block_spelled, one_expression_spelled}
use Rattle.slicc_lex.proofs.laws.spelled_trees_are_one.Goals as goal

pub returns : goal.returns
returns c = record { file = one_tree_spelled; block = one_block_spelled; expression = one_expression_spelled }
