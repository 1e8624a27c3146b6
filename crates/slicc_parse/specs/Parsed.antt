-- What a reading of the tokens of a whole file answers: the tree that they spell, where there is one and no token opens a
-- nesting above 64, and else the first token with which no file begins so, or the first one that opens such a nesting. Of
-- want of memory nothing is said.
use Rattle.std.specs.Prelude.{◌≡◌, ◌≢◌, ◌++◌, All, List, [], ◌∷◌, Result, MatchResult}
use Rattle.slicc_ast.specs.declared.tree.item.Tree.{Tree}
use Rattle.slicc_ast.specs.declared.tree.token.TokenKind.TheVariants.{End}
use Rattle.slicc_ast.specs.Prelude.{IsFirstFault, IsWithin, Passed, done, form, end, file, written}
use Rattle.slicc_lex.specs.declared.token.Token.{Token}
use Rattle.slicc_lex.specs.Prelude.{Spells, nesting_limit, symbols}
use Rattle.slicc_reading.specs.declared.fault.SyntaxFault.{SyntaxFault}
use Rattle.slicc_reading.specs.Prelude.{IsFaultFrom}

-- the last of the tokens, and no other, is the end token
pub record AreEndedOnce (tokens : List Token) : Type 0 where
  pub front : List Token
  pub end : Token
  pub split : tokens ≡ front ++ end ∷ []
  pub is_end : end.kind ≡ End
  pub no_other : All (λ (t : Token). t.kind ≢ End) front

-- no token opens a nesting above the limit
abbrev pub AreWithinLimit : List Token → Type 0
AreWithinLimit tokens = IsWithin written nesting_limit (form file done) end (symbols tokens)

-- the tokens spell the tree, and all of them are a file in which no token opens a nesting above the limit
pub record IsFileOf (t : Tree) (tokens : List Token) : Type 0 where
  pub spells : Spells t tokens
  pub passed : IsFirstFault written nesting_limit file (symbols tokens) (Passed [])

abbrev pub IsParse : List Token → Result Tree SyntaxFault → Type 0
IsParse tokens answer = MatchResult answer (λ t. IsFileOf t tokens) (IsFaultFrom file 0 tokens 0)
