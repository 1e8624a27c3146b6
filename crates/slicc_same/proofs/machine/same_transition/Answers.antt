use Rattle.std.proofs.Common.{rules}
use Rattle.slicc_same.proofs.Bools.{and_true, and_false}
use Rattle.slicc_same.proofs.MachineLists.{names_behind, next_behind, actions_alike}
use Rattle.slicc_same.proofs.machine.same_transition.Goals as goal

pub returns-else-same_pairs : goal.returns-else-same_pairs
returns-else-same_pairs c = search (rules, names_behind, next_behind, and_true, and_false)

pub returns-then-same_pairs : goal.returns-then-same_pairs
returns-then-same_pairs c = search (rules, names_behind, next_behind, actions_alike, and_true)
