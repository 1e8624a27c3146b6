use Rattle.slicc_files.proofs.OneTree.{one_tree}
use Rattle.slicc_files.proofs.laws.outlines_have_one_tree.Goals as goal

pub returns : goal.returns
returns c = one_tree
