use Rattle.slicc_ast.proofs.OneTree.{one_tree, one_block, one_expression}
use Rattle.slicc_ast.proofs.laws.tokens_spell_one_tree.Goals as goal

pub returns : goal.returns
returns c = record { file = one_tree; block = one_block; expression = one_expression }
