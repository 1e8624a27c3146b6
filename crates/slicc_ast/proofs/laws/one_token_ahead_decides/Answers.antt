use Rattle.slicc_ast.proofs.Decided.{one_token_decides, by_computation, has_all}
use Rattle.slicc_ast.proofs.Readers.{have_same_lists}
use Rattle.slicc_ast.proofs.laws.one_token_ahead_decides.Goals as goal

pub returns : goal.returns
returns c = record { computed = by_computation; all = has_all; decided = one_token_decides; written = have_same_lists }
