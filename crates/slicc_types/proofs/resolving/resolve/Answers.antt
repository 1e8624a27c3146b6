use Rattle.std.proofs.Common.{List, subst}
use Rattle.slicc_ast.specs.declared.tree.item.Tree.{Tree}
use Rattle.slicc_types.specs.Prelude.{IsKept}
use Rattle.slicc_types.proofs.resolving.resolve.Goals as goal

pub plan_of-requires : goal.plan_of-requires
plan_of-requires c =
    subst (λ (ts : List Tree). IsKept ts c.in_ok-symbols.symbols) c.as_slice.ensures c.in_ok-symbols.ensures
