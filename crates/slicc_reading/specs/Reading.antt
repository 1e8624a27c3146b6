-- How far the reader of a part of the grammar comes on tokens, and what the part is spelled as. Each function that reads a
-- part says so; where a whole form is read, it follows what the tokens spell and that the front is the longest.
use Rattle.std.specs.Prelude.{◌≡◌, ◌≤◌, ◌<◌, ◌++◌, ℕ, Bool, IsTrue, List, ◌∷◌, length}
use Rattle.slicc_ast.specs.declared.tree.span.Span.{Span}
use Rattle.slicc_ast.specs.declared.tree.token.TokenKind.{TokenKind}
use Rattle.slicc_ast.specs.declared.tree.token.TokenKind.TheVariants.{Sign as SignOf}
use Rattle.slicc_ast.specs.declared.tree.token.Sign.{Sign}
use Rattle.slicc_ast.specs.declared.tree.token.Sign.TheVariants.{OpenParenthesis, CloseParenthesis, Semicolon}
use Rattle.slicc_ast.specs.declared.tree.token.Word.{Word}
use Rattle.slicc_ast.specs.Names.{sign, word as word_parts}
use Rattle.slicc_ast.specs.Outline.{token}
use Rattle.slicc_ast.specs.Prelude.{Outline, node, Parts, none, part, provided, covering, Stop, Bad, Deep, Short, Passes, Fails, table}
use Rattle.slicc_ast.specs.Parts.{Part, word}
use Rattle.slicc_lex.specs.declared.token.Token.{Token}
use Rattle.slicc_lex.specs.Prelude.{token_spans, symbols}
use Rattle.slicc_reading.specs.declared.fault.Fault.{Fault}
use Rattle.slicc_reading.specs.declared.fault.Fault.TheVariants.{Syntax, Deep as TooDeep, NoMemory}

-- the span covers the tokens up to those that are left
abbrev pub Covers : Span → List Token → List Token → Type 0
Covers span tokens left = (own : List Token) → tokens ≡ own ++ left → span ≡ covering (token_spans own)

mutual
  -- the tokens up to those that are left spell the node, whose spans are where they stand
  pub data IsNode : Outline → List Token → List Token → Type 0 where
    spelled : {span : Span} {parts : Parts} {tokens left : List Token}
        → Covers span tokens left → AreParts parts tokens left → IsNode (node span parts) tokens left

  -- and these parts in a row
  pub data AreParts : Parts → List Token → List Token → Type 0 where
    nothing : {tokens : List Token} → AreParts none tokens tokens
    one : {kind : TokenKind} {parts : Parts} {t : Token} {tokens left : List Token}
        → t.kind ≡ kind → AreParts parts tokens left → AreParts (token kind parts) (t ∷ tokens) left
    inside : {outline : Outline} {parts : Parts} {tokens between left : List Token}
        → IsNode outline tokens between → AreParts parts between left → AreParts (part outline parts) tokens left
    allowed : {condition : Bool} {parts : Parts} {tokens left : List Token}
        → IsTrue condition → AreParts parts tokens left → AreParts (provided condition parts) tokens left

-- the tokens from the start up to the later ones spell these parts, whatever parts are behind them
abbrev pub IsSpelledBefore : (Parts → Parts) → List Token → List Token → Type 0
IsSpelledBefore parts start tokens = (others : Parts) (end : List Token) → AreParts others tokens end → AreParts (parts others) start end

-- With so many more nestings allowed, the reader of the part comes from the tokens to those that are left, and the tokens from
-- the start up to those spell the node. The start is before the tokens where something was read that the node begins with.
pub record IsRead (room : ℕ) (g : Part) (outline : Outline) (start tokens left : List Token) : Type 0 where
  pub passes : Passes table room g (symbols tokens) (symbols left)
  pub is_node : IsNode outline start left
  pub within : length left ≤ length tokens

-- The same for parts of a node: whatever parts are behind these, they are spelled behind the tokens that are read.
pub record AreRead (room : ℕ) (g : Part) (parts : Parts → Parts) (tokens left : List Token) : Type 0 where
  pub passes : Passes table room g (symbols tokens) (symbols left)
  pub spells : (others : Parts) (end : List Token) → AreParts others left end → AreParts (parts others) tokens end
  pub within : length left ≤ length tokens

-- What is left of a part, from the first tokens on, is another part from the later ones on: a loop that reads a repeated part
-- has come so far.
pub record Leads (room : ℕ) (g : Part) (tokens : List Token) (h : Part) (now : List Token) : Type 0 where
  pub passes : (left : List ℕ) → Passes table room h (symbols now) left → Passes table room g (symbols tokens) left
  pub fails : (stop : Stop) → Fails table room h (symbols now) stop → Fails table room g (symbols tokens) stop
  pub within : length now ≤ length tokens

-- the first token is this sign, which opens a nesting, and one more is allowed
pub record IsOpened (room : ℕ) (opener : Sign) (tokens left : List Token) : Type 0 where
  pub first : Token
  pub split : tokens ≡ first ∷ left
  pub is_opener : first.kind ≡ SignOf opener
  pub allowed : 0 < room

-- the first two tokens are this word and a parenthesis that opens a nesting, and one more is allowed
pub record IsCalled (room : ℕ) (head : Word) (tokens left : List Token) : Type 0 where
  pub between : List Token
  pub is_head : AreRead room (word head) (word_parts head) tokens between
  pub opened : IsOpened room OpenParenthesis between left

-- the word, and parts in parentheses with `;` behind them
abbrev pub call_parts : Word → (Parts → Parts) → Parts → Parts
call_parts head parts others = word_parts head (sign OpenParenthesis (parts (sign CloseParenthesis (sign Semicolon others))))

-- the fault is that of a stop
pub data IsStopOf : Stop → Fault → Type 0 where
  is_bad : {rest : List ℕ} → IsStopOf (Bad rest) (Syntax (length rest))
  is_deep : {rest : List ℕ} → IsStopOf (Deep rest) (TooDeep (length rest))
  is_short : IsStopOf Short (Syntax 0)

-- with so many more nestings allowed, the reader of the part stops in it with the fault, or there was no memory
pub data Refuses (room : ℕ) (g : Part) (tokens : List Token) : Fault → Type 0 where
  no_memory : Refuses room g tokens NoMemory
  stops : {fault : Fault} (stop : Stop) → Fails table room g (symbols tokens) stop → IsStopOf stop fault → Refuses room g tokens fault
