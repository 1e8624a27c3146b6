-- The choices by which a list is the parts of a row, in the order of the text: the place of each form's alternative, and 1
-- or 0 for each optional part and for each time that a repeated part could have come.
use Rattle.std.specs.Prelude.{ℕ, List, [], ◌∷◌}
use Rattle.slicc_ast.specs.Grammar.{Row, Rows, Grammar}
use Rattle.slicc_ast.specs.Matches.{Extent, Matches}
use Rattle.slicc_ast.specs.Matches.Matches.{stopped, ended, one, alternative, present, absent, again, enough, inside, on, outside}

abbrev pub choices_of : {F : Type 0} {g : Grammar F} {x : Extent} {row : Row F} {rows : Rows F} {tokens : List ℕ} {nestings : ℕ} → Matches g x row rows tokens nestings → List ℕ
choices_of stopped = []
choices_of ended = []
choices_of (one is m) = choices_of m
choices_of (alternative place chosen is m) = place ∷ choices_of m
choices_of (present m) = 1 ∷ choices_of m
choices_of (absent m) = 0 ∷ choices_of m
choices_of (again m) = 1 ∷ choices_of m
choices_of (enough m) = 0 ∷ choices_of m
choices_of (inside is m) = choices_of m
choices_of (on m) = choices_of m
choices_of (outside m) = choices_of m
