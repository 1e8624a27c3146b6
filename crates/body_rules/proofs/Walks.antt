-- The scopes of machines, one after the other.
use Rattle.std.proofs.Common.{◌≡◌, List, [], ◌∷◌, ◌++◌, ap, flat_map, map, refl}
use Rattle.slicc_ast.specs.declared.tree.item.Tree.{Tree}
use Rattle.slicc_ast.specs.declared.tree.machine.Machine.{Machine}
use Rattle.slicc_plan.specs.Prelude.{broken_in_machine, machines_of, wide_scopes, within}
use Rattle.body_rules.specs.Prelude.{broken_within}

within_same : (trees : List Tree) (ms : List Machine) → flat_map (broken_within trees) (map within ms) ≡ flat_map (broken_in_machine trees) ms
within_same trees [] = refl
within_same trees (m ∷ ms) = ap (λ bs. broken_in_machine trees m ++ bs) (within_same trees ms)

pub all_within : (trees : List Tree) → flat_map (broken_within trees) (wide_scopes trees) ≡ flat_map (broken_in_machine trees) (machines_of trees)
all_within trees = within_same trees (machines_of trees)
