use Rattle.slicc_ast.proofs.Leading.{expression_derives}
use Rattle.slicc_ast.proofs.LeadingStatements.{block_derives}
use Rattle.slicc_ast.proofs.LeadingTrees.{tree_derives}
use Rattle.slicc_ast.proofs.Readers.{tree_passes}
use Rattle.slicc_ast.proofs.laws.trees_are_of_the_written_grammar.Goals as goal

pub returns : goal.returns
returns c = record { file = tree_derives; passes = tree_passes; block = block_derives; expression = expression_derives }
