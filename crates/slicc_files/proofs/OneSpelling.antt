-- Tokens spell one tree at most: one shape, and their spans one place for each of its nodes, and a tree is what these say.
use Rattle.std.proofs.Common.{◌≡◌, List, ◌∷◌, sym, subst, ap, ◌∙◌}
use Rattle.std.proofs.lemmas.List.{same_from_push}
use Rattle.slicc_ast.specs.declared.tree.item.Tree.{Tree}
use Rattle.slicc_ast.specs.declared.tree.span.Span.{Span}
use Rattle.slicc_ast.specs.Prelude.{ArePlaced, covering, shape_in, spans_in, spans_of, tree, tree_parts}
use Rattle.slicc_lex.specs.declared.token.Token.{Token}
use Rattle.slicc_lex.specs.Prelude.{Spells, token_spans}
use Rattle.slicc_files.proofs.OneTree.{one_tree}
use Rattle.slicc_lex.proofs.OneTree.{one_tree_spelled}
use Rattle.slicc_files.proofs.OnePlacing.{same_spans_along}

abbrev file_span : List Token → Token → Span
file_span tokens end = record { file = (covering (token_spans tokens)).file; start = 0; end = end.span.start }

-- the tokens before the end token are one list
one_list : (tokens : List Token) (t u : Tree) (s : Spells t tokens) (r : Spells u tokens) → (s.written ≡ r.written) × (s.end ≡ r.end)
one_list tokens t u s r = same_from_push s.written r.written s.end r.end (sym s.split ∙ r.split)

pub one_spelling : (tokens : List Token) (t u : Tree) → Spells t tokens → Spells u tokens → t ≡ u
one_spelling tokens t u s r = one_tree t u s.allowed r.allowed (one_tree_spelled tokens t u s r) spans where
  one : (s.written ≡ r.written) × (s.end ≡ r.end)
  one = one_list tokens t u s r

  span : t.span ≡ u.span
  span = s.span ∙ ap (λ (end : Token). file_span tokens end) one.1 ∙ sym r.span

  parts : shape_in (tree_parts t) ≡ shape_in (tree_parts u)
  parts = cc (one_tree_spelled tokens t u s r)

  inner : spans_in (tree_parts t) ≡ spans_in (tree_parts u)
  inner =
      same_spans_along (tree_parts t) (tree_parts u) (token_spans s.written) parts s.placed
      (subst (λ ts. ArePlaced (tree_parts u) (token_spans ts)) (sym one.0) r.placed)

  spans : spans_of (tree t) ≡ spans_of (tree u)
  spans = ap (λ (x : Span). x ∷ spans_in (tree_parts t)) span ∙ ap (λ ss. u.span ∷ ss) inner
