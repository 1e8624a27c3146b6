-- A reader that looks at one token ahead and never goes back, as a relation on lists of tokens: it goes into a part
-- exactly where the token ahead is one that the part can begin with. That it stops exactly where the list does is the
-- law of this crate; contracts of reading functions say by `Passes` and `Fails` how far such a reader comes.
use Rattle.std.specs.Prelude.{◌≡◌, ℕ, zero, suc, true, false, cond, List, [], ◌∷◌, Some}
use Rattle.std.specs.List.{slice_get}
use Rattle.slicc_ast.specs.Kinds.{has, is_ahead}
use Rattle.slicc_ast.specs.Grammar.{Row, Rows, Grammar, is_nullable, first_of}
use Rattle.slicc_ast.specs.Grammar.Row.{done, token, form, maybe, many, nested}
use Rattle.slicc_ast.specs.Grammar.Rows.{end, next, up}
use Rattle.slicc_ast.specs.Faults.{Stop}
use Rattle.slicc_ast.specs.Faults.Stop.{Passed, Bad, Deep, Short}

-- the answer at a token that isn't one of those that must come, with so many nestings more allowed
abbrev pub refusal : {F : Type 0} → Grammar F → ℕ → List ℕ → Stop
refusal g depth [] = Short
refusal g zero (kind ∷ tokens) = cond (has g.openers kind) (Deep (kind ∷ tokens)) (Bad (kind ∷ tokens))
refusal g (suc depth) (kind ∷ tokens) = Bad (kind ∷ tokens)

-- with so many nestings more allowed, the reader of the row and the rows behind it stops so
pub data Stops {F : Type 0} (g : Grammar F) : ℕ → Row F → Rows F → List ℕ → Stop → Type 0 where
  read : {depth : ℕ} {tokens : List ℕ} → Stops g depth done end tokens (Passed tokens)
  on : {depth : ℕ} {row : Row F} {rows : Rows F} {tokens : List ℕ} {stop : Stop}
      → Stops g depth row rows tokens stop → Stops g depth done (next row rows) tokens stop
  outside : {depth : ℕ} {row : Row F} {rows : Rows F} {tokens : List ℕ} {stop : Stop}
      → Stops g (suc depth) row rows tokens stop → Stops g depth done (up row rows) tokens stop
  taken : {depth : ℕ} {kinds : List ℕ} {row : Row F} {rows : Rows F} {kind : ℕ} {tokens : List ℕ} {stop : Stop}
      → has kinds kind ≡ true → Stops g depth row rows tokens stop
      → Stops g depth (token kinds row) rows (kind ∷ tokens) stop
  refused : {depth : ℕ} {kinds : List ℕ} {row : Row F} {rows : Rows F} {tokens : List ℕ}
      → is_ahead kinds tokens ≡ false → Stops g depth (token kinds row) rows tokens (refusal g depth tokens)
  chosen : {depth : ℕ} {n : F} {row : Row F} {rows : Rows F} {tokens : List ℕ} {stop : Stop} (place : ℕ) (choice : Row F)
      → slice_get (g.alternatives n) place ≡ Some choice → is_ahead (first_of g choice) tokens ≡ true
      → Stops g depth choice (next row rows) tokens stop → Stops g depth (form n row) rows tokens stop
  by_default : {depth : ℕ} {n : F} {row : Row F} {rows : Rows F} {tokens : List ℕ} {stop : Stop} (place : ℕ) (choice : Row F)
      → slice_get (g.alternatives n) place ≡ Some choice → is_nullable g choice ≡ true → is_ahead (g.first n) tokens ≡ false
      → Stops g depth choice (next row rows) tokens stop → Stops g depth (form n row) rows tokens stop
  unformed : {depth : ℕ} {n : F} {row : Row F} {rows : Rows F} {tokens : List ℕ}
      → g.may_be_empty n ≡ false → is_ahead (g.first n) tokens ≡ false
      → Stops g depth (form n row) rows tokens (refusal g depth tokens)
  present : {depth : ℕ} {part row : Row F} {rows : Rows F} {tokens : List ℕ} {stop : Stop}
      → is_ahead (first_of g part) tokens ≡ true
      → Stops g depth part (next row rows) tokens stop → Stops g depth (maybe part row) rows tokens stop
  absent : {depth : ℕ} {part row : Row F} {rows : Rows F} {tokens : List ℕ} {stop : Stop}
      → is_ahead (first_of g part) tokens ≡ false
      → Stops g depth row rows tokens stop → Stops g depth (maybe part row) rows tokens stop
  again : {depth : ℕ} {part row : Row F} {rows : Rows F} {tokens : List ℕ} {stop : Stop}
      → is_ahead (first_of g part) tokens ≡ true
      → Stops g depth part (next (many part row) rows) tokens stop → Stops g depth (many part row) rows tokens stop
  enough : {depth : ℕ} {part row : Row F} {rows : Rows F} {tokens : List ℕ} {stop : Stop}
      → is_ahead (first_of g part) tokens ≡ false
      → Stops g depth row rows tokens stop → Stops g depth (many part row) rows tokens stop
  inside : {depth : ℕ} {kinds : List ℕ} {part row : Row F} {rows : Rows F} {kind : ℕ} {tokens : List ℕ} {stop : Stop}
      → has kinds kind ≡ true → Stops g depth part (up row rows) tokens stop
      → Stops g (suc depth) (nested kinds part row) rows (kind ∷ tokens) stop
  too_deep : {kinds : List ℕ} {part row : Row F} {rows : Rows F} {kind : ℕ} {tokens : List ℕ}
      → has kinds kind ≡ true → Stops g zero (nested kinds part row) rows (kind ∷ tokens) (Deep (kind ∷ tokens))
  unopened : {depth : ℕ} {kinds : List ℕ} {part row : Row F} {rows : Rows F} {tokens : List ℕ}
      → is_ahead kinds tokens ≡ false → Stops g depth (nested kinds part row) rows tokens (refusal g depth tokens)

-- the reader of a part comes from the first list to the second, whatever is behind the part. A part is what it puts before
-- a row, as `form n` or `many part`.
abbrev pub Passes : {F : Type 0} → Grammar F → ℕ → (Row F → Row F) → List ℕ → List ℕ → Type 0
Passes {F} g depth part tokens left =
    (row : Row F) (rows : Rows F) (stop : Stop) → Stops g depth row rows left stop → Stops g depth (part row) rows tokens stop

-- the reader of a part stops inside it, whatever is behind the part
abbrev pub Fails : {F : Type 0} → Grammar F → ℕ → (Row F → Row F) → List ℕ → Stop → Type 0
Fails {F} g depth part tokens stop = (row : Row F) (rows : Rows F) → Stops g depth (part row) rows tokens stop

-- one part behind another
abbrev pub followed_by : {F : Type 0} → (Row F → Row F) → (Row F → Row F) → Row F → Row F
followed_by part other row = part (other row)
