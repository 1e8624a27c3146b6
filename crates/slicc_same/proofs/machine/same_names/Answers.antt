use Rattle.std.proofs.Common.{rules}
use Rattle.slicc_same.proofs.Bools.{and_true}
use Rattle.slicc_same.proofs.MachineLists.{names_alike}
use Rattle.slicc_same.proofs.machine.same_names.Goals as goal

pub returns-in-Several-Several : goal.returns-in-Several-Several
returns-in-Several-Several c = search (rules, names_alike, and_true)
