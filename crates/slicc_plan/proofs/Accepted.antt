-- Trees that are equal to accepted ones are accepted.
use Rattle.std.proofs.Common.{◌≡◌, List, subst, sym}
use Rattle.slicc_ast.specs.declared.tree.item.Tree.{Tree}
use Rattle.slicc_plan.specs.Prelude.{IsAccepted}

pub accepted_along : (a b : List Tree) → a ≡ b → IsAccepted b → IsAccepted a
accepted_along a b e h = subst IsAccepted (sym e) h
