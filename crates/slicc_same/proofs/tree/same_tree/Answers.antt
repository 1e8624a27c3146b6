use Rattle.std.proofs.Common.{rules}
use Rattle.slicc_same.proofs.Bools.{and_true, and_false}
use Rattle.slicc_same.proofs.MachineLists.{protocol_behind, items_alike}
use Rattle.slicc_same.proofs.tree.same_tree.Goals as goal

pub returns-else-same_protocol : goal.returns-else-same_protocol
returns-else-same_protocol c = search (rules, protocol_behind, and_false)

pub returns-then-same_protocol : goal.returns-then-same_protocol
returns-then-same_protocol c = search (rules, protocol_behind, items_alike, and_true)
