-- Lists of names that serve as well as each other for finding the first name with a text.
use Rattle.std.specs.Prelude.{◌≡◌, ℕ, List}
use Rattle.slicc_ast.specs.declared.tree.name.Name.{Name}
use Rattle.slicc_plan.specs.Prelude.{first_with}

abbrev pub FindSame : List Name → List Name → Type 0
FindSame ms ns = (text : List ℕ) → first_with text ms ≡ first_with text ns
