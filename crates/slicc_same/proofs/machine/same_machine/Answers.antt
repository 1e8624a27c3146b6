use Rattle.std.proofs.Common.{rules}
use Rattle.slicc_same.proofs.Bools.{and_true, and_false}
use Rattle.slicc_same.proofs.MachineLists.{parameters_alike, decls_alike}
use Rattle.slicc_same.proofs.machine.same_machine.Goals as goal

pub returns-else-all_same : goal.returns-else-all_same
returns-else-all_same c = search (rules, parameters_alike, decls_alike, and_true, and_false)

pub returns-then-all_same : goal.returns-then-all_same
returns-then-all_same c = search (rules, parameters_alike, decls_alike, and_true)
