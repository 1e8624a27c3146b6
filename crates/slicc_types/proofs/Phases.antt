-- What is told, phase by phase.
use Rattle.std.proofs.Common.{◌≡◌, Option, None, Some, Ok, Err, List, [], map}
use Rattle.slicc_ast.specs.declared.tree.item.Tree.{Tree}
use Rattle.slicc_plan.specs.declared.broken.Broken.{Broken}
use Rattle.slicc_plan.specs.declared.row.Written.{Written}
use Rattle.slicc_plan.specs.Prelude.{of_bodies, of_declarations, of_machines, broken_bodies, broken_declarations, broken_machines, first_of, machines_of, written_of}
use Rattle.slicc_names.proofs.FirstOfAll.{is_none, is_some}
use Rattle.slicc_types.specs.Prelude.{IsJudged}

pub told_by_declarations : (trees : List Tree) (first : Option Broken) (b : Broken) → first ≡ first_of (broken_declarations trees) → first ≡ Some b → IsJudged trees (Err b)
told_by_declarations trees first b same some = of_declarations (is_some (broken_declarations trees) first b same some)

pub told_by_bodies : (trees : List Tree) (first : Option Broken) (b : Broken) → broken_declarations trees ≡ [] → first ≡ first_of (broken_bodies trees) → first ≡ Some b → IsJudged trees (Err b)
told_by_bodies trees first b declarations same some = of_bodies declarations (is_some (broken_bodies trees) first b same some)

pub told_by_machines : (trees : List Tree) {first : Option Broken} {b : Broken} → broken_declarations trees ≡ [] → broken_bodies trees ≡ [] → first ≡ first_of (broken_machines trees) → first ≡ Some b → IsJudged trees (Err b)
told_by_machines trees {first} {b} declarations bodies same some =
    of_machines declarations bodies (is_some (broken_machines trees) first b same some)

pub keeps_all : (trees : List Tree) {first : Option Broken} {written : List (List Written)} → broken_declarations trees ≡ [] → broken_bodies trees ≡ [] → first ≡ first_of (broken_machines trees) → first ≡ None
    → written ≡ map written_of (machines_of trees) → IsJudged trees (Ok written)
keeps_all trees {first} {written} declarations bodies same none are = record {
  accepted = record { of_declarations = declarations; of_bodies = bodies; of_machines = is_none (broken_machines trees) first same none };
  are = are;
}
