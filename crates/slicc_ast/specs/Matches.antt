-- Which lists of tokens a row and the rows behind it can be, and which they can begin with, by a case for each kind of
-- part. A list begins the parts where it is whole ones of them in a row, and behind these a list that begins the next
-- one, or nothing. No reading from left to right is meant: an alternative is any one of its form's, and an optional part
-- is there or isn't, as the list asks for.
use Rattle.std.specs.Prelude.{◌≡◌, ℕ, true, List, [], ◌∷◌, Some}
use Rattle.std.specs.List.{slice_get}
use Rattle.slicc_ast.specs.Kinds.{has}
use Rattle.slicc_ast.specs.Grammar.{Row, Rows, Grammar, nestings_of}
use Rattle.slicc_ast.specs.Grammar.Row.{done, token, form, maybe, many, nested}
use Rattle.slicc_ast.specs.Grammar.Rows.{end, next, up}

-- the list is all of the parts, or a front of them
pub data Extent : Type 0 where
  Whole : Extent
  Front : Extent

-- the list matches the row and the rows behind it, and so many nestings are open behind it
pub data Matches {F : Type 0} (g : Grammar F) : Extent → Row F → Rows F → List ℕ → ℕ → Type 0 where
  -- any parts begin with nothing
  stopped : {row : Row F} {rows : Rows F} → Matches g Front row rows [] (nestings_of rows)
  ended : Matches g Whole done end [] 0
  one : {x : Extent} {kinds : List ℕ} {row : Row F} {rows : Rows F} {kind : ℕ} {tokens : List ℕ} {nestings : ℕ}
      → has kinds kind ≡ true → Matches g x row rows tokens nestings → Matches g x (token kinds row) rows (kind ∷ tokens) nestings
  alternative : {x : Extent} {n : F} {row : Row F} {rows : Rows F} {tokens : List ℕ} {nestings : ℕ} (place : ℕ) (chosen : Row F)
      → slice_get (g.alternatives n) place ≡ Some chosen
      → Matches g x chosen (next row rows) tokens nestings → Matches g x (form n row) rows tokens nestings
  present : {x : Extent} {part row : Row F} {rows : Rows F} {tokens : List ℕ} {nestings : ℕ}
      → Matches g x part (next row rows) tokens nestings → Matches g x (maybe part row) rows tokens nestings
  absent : {x : Extent} {part row : Row F} {rows : Rows F} {tokens : List ℕ} {nestings : ℕ}
      → Matches g x row rows tokens nestings → Matches g x (maybe part row) rows tokens nestings
  again : {x : Extent} {part row : Row F} {rows : Rows F} {tokens : List ℕ} {nestings : ℕ}
      → Matches g x part (next (many part row) rows) tokens nestings → Matches g x (many part row) rows tokens nestings
  enough : {x : Extent} {part row : Row F} {rows : Rows F} {tokens : List ℕ} {nestings : ℕ}
      → Matches g x row rows tokens nestings → Matches g x (many part row) rows tokens nestings
  inside : {x : Extent} {kinds : List ℕ} {part row : Row F} {rows : Rows F} {kind : ℕ} {tokens : List ℕ} {nestings : ℕ}
      → has kinds kind ≡ true → Matches g x part (up row rows) tokens nestings
      → Matches g x (nested kinds part row) rows (kind ∷ tokens) nestings
  on : {x : Extent} {row : Row F} {rows : Rows F} {tokens : List ℕ} {nestings : ℕ}
      → Matches g x row rows tokens nestings → Matches g x done (next row rows) tokens nestings
  outside : {x : Extent} {row : Row F} {rows : Rows F} {tokens : List ℕ} {nestings : ℕ}
      → Matches g x row rows tokens nestings → Matches g x done (up row rows) tokens nestings

-- the list is the row and the rows behind it
abbrev pub Derives : {F : Type 0} → Grammar F → Row F → Rows F → List ℕ → Type 0
Derives g row rows tokens = Matches g Whole row rows tokens 0

-- the row and the rows behind it can begin with the list
abbrev pub Begins : {F : Type 0} → Grammar F → Row F → Rows F → List ℕ → Type 0
Begins g row rows tokens = (nestings : ℕ) × Matches g Front row rows tokens nestings

-- a list is viable for a form where it is the front of one
abbrev pub IsViable : {F : Type 0} → Grammar F → F → List ℕ → Type 0
IsViable g n tokens = Begins g (form n done) end tokens
