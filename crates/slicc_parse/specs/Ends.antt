-- The end of a file, and a file that is read up to it.
use Rattle.std.specs.Prelude.{◌≡◌, ℕ, List, ◌∷◌}
use Rattle.slicc_ast.specs.declared.tree.item.Tree.{Tree}
use Rattle.slicc_ast.specs.declared.tree.token.TokenKind.TheVariants.{End}
use Rattle.slicc_ast.specs.Prelude.{covering, tree_parts, Passes, file, of, table}
use Rattle.slicc_lex.specs.declared.token.Token.{Token}
use Rattle.slicc_lex.specs.Prelude.{token_spans, symbols}
use Rattle.slicc_reading.specs.Prelude.{AreParts}

-- the first token is the end token, which begins at a byte
pub record IsEndAt (tokens : List Token) (place : ℕ) (left : List Token) : Type 0 where
  pub end : Token
  pub split : tokens ≡ end ∷ left
  pub is_end : end.kind ≡ End
  pub is_place : place ≡ end.span.start

-- With so many more nestings allowed, the reader of a file comes from the tokens to those that are left, and those up to the
-- end token before these spell the tree.
pub record IsFileRead (room : ℕ) (t : Tree) (tokens left : List Token) : Type 0 where
  pub passes : Passes table room (of file) (symbols tokens) (symbols left)
  pub last : List Token
  pub spells : AreParts (tree_parts t) tokens last
  pub end : IsEndAt last t.span.end left
  pub span : t.span ≡ record { file = (covering (token_spans tokens)).file; start = 0; end = t.span.end }
