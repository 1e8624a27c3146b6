-- An outline with its spans and without its conditions: an outline's shape and its spans are enough to make it again.
use Rattle.std.proofs.Common.{◌≡◌, List, [], ◌∷◌, ◌++◌, refl, sym, ap, ◌∙◌, append_assoc}
use Rattle.slicc_ast.specs.declared.tree.span.Span.{Span}
use Rattle.slicc_ast.specs.Outline.{token}
use Rattle.slicc_ast.specs.Prelude.{Outline, node, Parts, none, part, provided, no_span, shape_of, shape_in, spans_of, spans_in}

-- the outline without its conditions
abbrev mutual
  pub bare : Outline → Outline
  bare (node span parts) = node span (bare_in parts)

  pub bare_in : Parts → Parts
  bare_in none = none
  bare_in (token kind parts) = token kind (bare_in parts)
  bare_in (part outline parts) = part (bare outline) (bare_in parts)
  bare_in (provided condition parts) = bare_in parts

abbrev first_span : List Span → Span
first_span [] = no_span
first_span (span ∷ spans) = span

abbrev behind : List Span → List Span
behind [] = []
behind (span ∷ spans) = spans

-- the outline with these spans in place of its own, and the spans that are left
abbrev mutual
  filled : Outline → List Span → Outline × List Span
  filled (node old parts) spans =
      let inner = filled_in parts (behind spans) in
      (node (first_span spans) inner.0, inner.1)

  filled_in : Parts → List Span → Parts × List Span
  filled_in none spans = (none, spans)
  filled_in (token kind parts) spans =
      let others = filled_in parts spans in
      (token kind others.0, others.1)
  filled_in (part outline parts) spans =
      let first = filled outline spans in
      let others = filled_in parts first.1 in
      (part first.0 others.0, others.1)
  filled_in (provided condition parts) spans = filled_in parts spans

mutual
  filled_again : (o : Outline) (left : List Span) → filled (shape_of o) (spans_of o ++ left) ≡ (bare o, left)
  filled_again (node span parts) left = ap (λ (r : Parts × List Span). (node span r.0, r.1)) (filled_in_again parts left)

  filled_in_again : (p : Parts) (left : List Span) → filled_in (shape_in p) (spans_in p ++ left) ≡ (bare_in p, left)
  filled_in_again none left = refl
  filled_in_again (token kind parts) left = ap (λ (r : Parts × List Span). (token kind r.0, r.1)) (filled_in_again parts left)
  filled_in_again (part outline parts) left =
      ap (λ spans. filled_in (part (shape_of outline) (shape_in parts)) spans) (append_assoc (spans_of outline) (spans_in parts) left)
      ∙ ap (λ (r : Outline × List Span). (part r.0 (filled_in (shape_in parts) r.1).0, (filled_in (shape_in parts) r.1).1)) (filled_again outline (spans_in parts ++ left))
      ∙ ap (λ (r : Parts × List Span). (part (bare outline) r.0, r.1)) (filled_in_again parts left)
  filled_in_again (provided condition parts) left = filled_in_again parts left

pub same_bare : (o p : Outline) → shape_of o ≡ shape_of p → spans_of o ≡ spans_of p → bare o ≡ bare p
same_bare o p shapes spans =
    ap (λ (r : Outline × List Span). r.0)
    (sym (filled_again o []) ∙ ap (λ q. filled q (spans_of o ++ [])) shapes ∙ ap (λ xs. filled (shape_of p) (xs ++ [])) spans ∙ filled_again p [])
