use Rattle.slicc_ast.proofs.OneChoice.{one_choice_of_form}
use Rattle.slicc_ast.specs.Prelude.{table}
use Rattle.slicc_ast.proofs.Decided.{one_token_decides}
use Rattle.slicc_ast.proofs.Readers.{passed, failed}
use Rattle.slicc_ast.proofs.laws.reader_keeps_to_the_written_grammar.Goals as goal

pub returns : goal.returns
returns c = record { passes = passed; fails = failed; one = one_choice_of_form table one_token_decides }
