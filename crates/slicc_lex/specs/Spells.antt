-- Which tokens spell a tree: this is the grammar, read from the trees. The rows of parts of each tree have a case for each
-- alternative of the grammar; here they are compared with tokens and with the places of these. A tree has one spelling,
-- its places aside.
use Rattle.std.specs.Prelude.{◌≡◌, ◌++◌, IsTrue, List, [], ◌∷◌, map}
use Rattle.slicc_ast.specs.declared.tree.span.Span.{Span}
use Rattle.slicc_ast.specs.declared.tree.token.TokenKind.{TokenKind}
use Rattle.slicc_ast.specs.declared.tree.token.TokenKind.TheVariants.{End}
use Rattle.slicc_ast.specs.declared.tree.item.Tree.{Tree}
use Rattle.slicc_ast.specs.Prelude.{Outline, kinds_of, kinds_in, is_allowed, are_allowed, covering, IsPlaced, ArePlaced, tree_parts}
use Rattle.slicc_lex.specs.declared.token.Token.{Token}

abbrev pub token_kinds : List Token → List TokenKind
token_kinds tokens = map (λ (t : Token). t.kind) tokens

abbrev pub token_spans : List Token → List Span
token_spans tokens = map (λ (t : Token). t.span) tokens

-- the tokens spell a node, as that of an expression or a block, and its spans are where they stand
pub record SpellsNode (outline : Outline) (tokens : List Token) : Type 0 where
  pub kinds : token_kinds tokens ≡ kinds_of outline
  pub allowed : IsTrue (is_allowed outline)
  pub placed : IsPlaced outline (token_spans tokens)

-- The tokens of a file spell its tree: the parts in a row, and then the end token. The tree itself goes from byte 0 to
-- the place of the end token, and is in the first token's file as each other node is.
pub record Spells (t : Tree) (tokens : List Token) : Type 0 where
  pub written : List Token
  pub end : Token
  pub split : tokens ≡ written ++ end ∷ []
  pub is_end : end.kind ≡ End
  pub kinds : token_kinds written ≡ kinds_in (tree_parts t)
  pub allowed : IsTrue (are_allowed (tree_parts t))
  pub placed : ArePlaced (tree_parts t) (token_spans written)
  pub span : t.span ≡ record { file = (covering (token_spans tokens)).file; start = 0; end = end.span.start }
