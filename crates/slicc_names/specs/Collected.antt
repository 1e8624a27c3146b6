-- What may be answered where the names of a protocol are collected: they, where no rule of declarations is broken, or else the first
-- such rule.
use Rattle.std.specs.Prelude.{◌≡◌, ℕ, Some, List, [], Result, Ok, Err}
use Rattle.slicc_ast.specs.declared.tree.item.Tree.{Tree}
use Rattle.slicc_plan.specs.declared.broken.Broken.{Broken}
use Rattle.slicc_plan.specs.declared.refusal.Refusal.{Refusal}
use Rattle.slicc_plan.specs.Prelude.{IsAnswered, broken_declarations, IsFirstBroken}
use Rattle.slicc_names.specs.Names.{all_names}

abbrev pub AreNames : List Tree → List (List (List ℕ)) → Type 0
AreNames trees names = (broken_declarations trees ≡ []) × (names ≡ all_names trees)

abbrev pub AreNamesOrBroken : List Tree → Result (List (List (List ℕ))) Broken → Type 0
AreNamesOrBroken trees (Ok names) = AreNames trees names
AreNamesOrBroken trees (Err b) = IsFirstBroken (broken_declarations trees) b

abbrev pub IsCollected : List Tree → Result (List (List (List ℕ))) Refusal → Type 0
IsCollected trees (Ok names) = AreNames trees names
IsCollected trees (Err r) = IsAnswered (broken_declarations trees) (Some r)
