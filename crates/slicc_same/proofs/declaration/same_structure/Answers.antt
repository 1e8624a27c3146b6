use Rattle.std.proofs.Common.{rules}
use Rattle.slicc_same.proofs.Bools.{and_true}
use Rattle.slicc_same.proofs.ItemLists.{members_alike}
use Rattle.slicc_same.proofs.declaration.same_structure.Goals as goal

pub returns-then-same_pairs : goal.returns-then-same_pairs
returns-then-same_pairs c = search (rules, and_true, members_alike)
