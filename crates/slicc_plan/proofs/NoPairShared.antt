-- A protocol that keeps the rules of machines has no two transitions for one pair.
use Rattle.std.proofs.Common.{◌≡◌, List, []}
use Rattle.slicc_ast.specs.declared.tree.item.Tree.{Tree}
use Rattle.slicc_plan.specs.Prelude.{broken_machines, shared_pairs}
use Rattle.slicc_plan.proofs.MachinesKept.{machines_kept}

pub none_shared : (trees : List Tree) → broken_machines trees ≡ [] → shared_pairs trees ≡ []
none_shared trees e = (machines_kept trees e).pairs
