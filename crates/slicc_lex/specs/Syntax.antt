-- What a reading of tokens as one form answers, from a token on. The longest front of the tokens that can begin the form is
-- taken. Where a token of it opens a nesting above 64, the answer is the first such token; else, where it is the whole form,
-- the answer is the form; else the answer is the token behind it, which opens a nesting above 64 or is bad. These are the
-- cases of `IsStop`, with as many nestings allowed as are left of 64.
use Rattle.std.specs.Prelude.{◌≡◌, ◌+◌, ◌-◌, ◌++◌, ℕ, List, [], ◌∷◌, length, map, drop}
use Rattle.slicc_ast.specs.declared.tree.token.TokenKind.TheVariants.{End}
use Rattle.slicc_ast.specs.Prelude.{Outline, IsFirstFault, Stop, Passed, Bad, Deep, Form, kind_of, written}
use Rattle.slicc_lex.specs.declared.token.Token.{Token}
use Rattle.slicc_lex.specs.Spells.{SpellsNode}

-- the tokens as the grammar sees them
abbrev pub symbols : List Token → List ℕ
symbols tokens = map (λ (t : Token). kind_of t.kind) tokens

-- how deep brackets, braces, parentheses and operands of unary operators may stand in each other
abbrev pub nesting_limit : ℕ
nesting_limit = 64

-- the last of the tokens is the end token
pub record AreEnded (tokens : List Token) : Type 0 where
  pub front : List Token
  pub end : Token
  pub split : tokens ≡ front ++ end ∷ []
  pub is_end : end.kind ≡ End

-- With so many nestings open before the token at a place, the longest front of the tokens from there that can begin the form
-- is a whole one, which these tokens spell as this node, and up to the next place there are no others.
pub record IsReadAs (form : Form) (depth : ℕ) (tokens : List Token) (at : ℕ) (node : Outline) (next : ℕ) : Type 0 where
  pub front : List Token
  pub left : List Token
  pub split : drop at tokens ≡ front ++ left
  pub spells : SpellsNode node front
  pub passed : IsFirstFault written (nesting_limit - depth) form (symbols (drop at tokens)) (Passed (symbols left))
  pub is_next : next ≡ at + length front

-- the same tokens stop at a place, because of the token there
pub record IsStoppedAt (form : Form) (depth : ℕ) (tokens : List Token) (at : ℕ) (why : List ℕ → Stop) (place : ℕ) : Type 0 where
  pub front : List Token
  pub left : List Token
  pub split : drop at tokens ≡ front ++ left
  pub stopped : IsFirstFault written (nesting_limit - depth) form (symbols (drop at tokens)) (why (symbols left))
  pub is_place : place ≡ at + length front

-- no form goes on so with the token at the place
abbrev pub IsBadAt : Form → ℕ → List Token → ℕ → ℕ → Type 0
IsBadAt form depth tokens at place = IsStoppedAt form depth tokens at Bad place

-- the token at the place opens a nesting above the limit
abbrev pub IsDeepAt : Form → ℕ → List Token → ℕ → ℕ → Type 0
IsDeepAt form depth tokens at place = IsStoppedAt form depth tokens at Deep place
