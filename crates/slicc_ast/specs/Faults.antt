-- Where a list of tokens ceases to be the parts of a row, and why: the first token with which no list of these parts
-- begins so, or the first one that opens a nesting above the limit. This is said of lists and of what begins the parts,
-- and not of a reader.
use Rattle.std.specs.Prelude.{◌≡◌, ℕ, ◌≤◌, ◌<◌, true, List, [], ◌∷◌, ◌++◌}
use Rattle.slicc_ast.specs.Kinds.{has}
use Rattle.slicc_ast.specs.Grammar.{Row, Rows, Grammar}
use Rattle.slicc_ast.specs.Matches.{Matches, Derives, Begins}
use Rattle.slicc_ast.specs.Matches.Extent.{Front}

-- how far a list of tokens goes as the parts, with the tokens that are left
pub data Stop : Type 0 where
  -- the parts are there, and these tokens are behind them
  Passed : List ℕ → Stop
  -- the first of these tokens is no part, and can't begin one
  Bad : List ℕ → Stop
  -- the first of these tokens opens a nesting above the limit
  Deep : List ℕ → Stop
  -- the list ends before the parts do
  Short : Stop

module _ {F : Type 0} (g : Grammar F) (limit : ℕ) (row : Row F) (rows : Rows F) where
  -- no token of the list opens a nesting above the limit: no front of the list leaves more of them open
  abbrev pub IsWithin : List ℕ → Type 0
  IsWithin tokens =
      (front rest : List ℕ) (nestings : ℕ) → tokens ≡ front ++ rest → Matches g Front row rows front nestings → nestings ≤ limit

  -- the list goes no further: the parts begin with its front, and not with the token behind that as well
  pub record IsLongest (front rest : List ℕ) : Type 0 where
    pub begins : Begins g row rows front
    pub not_further : (kind : ℕ) (later : List ℕ) → rest ≡ kind ∷ later → Begins g row rows (front ++ kind ∷ []) → ⊥

  -- as an operand may be ended or may go on, more or fewer nestings may be open behind a front; where the token behind it
  -- can't go on with it, all are ended that may be. Then an opening bracket, for one, is too deep where even so there are
  -- as many open as are allowed.
  pub record IsOpenerTooDeep (front : List ℕ) (kind : ℕ) : Type 0 where
    pub opens : has g.openers kind ≡ true
    pub all_open : (nestings : ℕ) → Matches g Front row rows front nestings → limit ≤ nestings

  pub data IsStop (tokens : List ℕ) : Stop → Type 0 where
    -- a token that may stand there opens one nesting too many, and it is the first such
    one_too_deep : (front later : List ℕ) (kind nestings : ℕ)
        → tokens ≡ front ++ kind ∷ later → IsWithin front
        → Matches g Front row rows (front ++ kind ∷ []) nestings → limit < nestings
        → IsStop tokens (Deep (kind ∷ later))
    -- the longest front of the list that begins the parts is the parts
    whole : (front rest : List ℕ)
        → tokens ≡ front ++ rest → IsWithin front → IsLongest front rest → Derives g row rows front
        → IsStop tokens (Passed rest)
    -- it isn't, and behind it stands a token that opens a nesting wherever it stands, with all that are allowed open
    opener_too_deep : (front later : List ℕ) (kind : ℕ)
        → tokens ≡ front ++ kind ∷ later → IsWithin front → IsLongest front (kind ∷ later)
        → (Derives g row rows front → ⊥) → IsOpenerTooDeep front kind
        → IsStop tokens (Deep (kind ∷ later))
    -- it isn't, and behind it stands any other token
    not_viable : (front later : List ℕ) (kind : ℕ)
        → tokens ≡ front ++ kind ∷ later → IsWithin front → IsLongest front (kind ∷ later)
        → (Derives g row rows front → ⊥) → (IsOpenerTooDeep front kind → ⊥)
        → IsStop tokens (Bad (kind ∷ later))
    -- all of the list begins the parts and isn't the parts
    too_short : IsWithin tokens → Begins g row rows tokens → (Derives g row rows tokens → ⊥) → IsStop tokens Short

-- the first fault of a list that should be one form and nothing else, where there is one
abbrev pub IsFirstFault : {F : Type 0} → Grammar F → ℕ → F → List ℕ → Stop → Type 0
IsFirstFault g limit n tokens stop = IsStop g limit (Row.form n Row.done) Rows.end tokens stop
