-- Lists without an element.
use Rattle.std.proofs.Common.{◌≡◌, ◌==◌, Bool, cond, List, [], ◌∷◌, length, refl, ap, arith}
use Rattle.slicc_ast.specs.declared.tree.item.Tree.{Tree}
use Rattle.slicc_plan.specs.Prelude.{machines_of, at_end_of_first, is_empty, missing_machine}

pub empty_as : {X : Type 0} (xs : List X) → is_empty xs ≡ (length xs == 0)
empty_as [] = refl
empty_as (x ∷ xs) = grind arith

pub empty_of : (trees : List Tree) (b : Bool) → is_empty (machines_of trees) ≡ b → missing_machine trees ≡ cond b (at_end_of_first trees) []
empty_of trees b e = ap (λ b. cond b (at_end_of_first trees) []) e
