-- When two tables of the same forms have the same lists of tokens, and leave the same nestings open behind them.
use Rattle.std.specs.Prelude.{◌≡◌, ◌↔◌, ℕ, List, Some}
use Rattle.std.specs.List.{slice_get}
use Rattle.slicc_ast.specs.Grammar.{Row, Rows, Grammar}
use Rattle.slicc_ast.specs.Grammar.Row.{done, token, form, maybe, many, nested}
use Rattle.slicc_ast.specs.Grammar.Rows.{next}
use Rattle.slicc_ast.specs.Matches.{Extent, Matches}

-- what an alternative of the one table is by the other, its form is by the other
abbrev pub Covers : {F : Type 0} → Grammar F → Grammar F → Type 0
Covers {F} g other =
    (n : F) (place : ℕ) (chosen : Row F) → slice_get (g.alternatives n) place ≡ Some chosen
    → (x : Extent) (row : Row F) (rows : Rows F) (tokens : List ℕ) (nestings : ℕ)
    → Matches other x chosen (next row rows) tokens nestings → Matches other x (form n row) rows tokens nestings

abbrev pub HaveSameLists : {F : Type 0} → Grammar F → Grammar F → Type 0
HaveSameLists {F} g other =
    (x : Extent) (row : Row F) (rows : Rows F) (tokens : List ℕ) (nestings : ℕ)
    → Matches g x row rows tokens nestings ↔ Matches other x row rows tokens nestings

-- the parts of one row and then those of the other, as one row
abbrev pub joined : {F : Type 0} → Row F → Row F → Row F
joined done other = other
joined (token kinds row) other = token kinds (joined row other)
joined (form n row) other = form n (joined row other)
joined (maybe part row) other = maybe part (joined row other)
joined (many part row) other = many part (joined row other)
joined (nested kinds part row) other = nested kinds part (joined row other)
