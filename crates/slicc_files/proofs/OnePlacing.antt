-- The nodes of a tree have the spans that its tokens give them, so that two trees of one shape with the same tokens have the
-- same spans.
use Rattle.std.proofs.Common.{◌≡◌, List, [], ◌∷◌, ◌++◌, length, take, drop, refl, sym, ap, ◌∙◌, arith, length-append}
use Rattle.slicc_ast.specs.declared.tree.span.Span.{Span}
use Rattle.slicc_ast.specs.Outline.{token}
use Rattle.slicc_ast.specs.Prelude.{Outline, Parts, node, none, part, provided, kinds_in, kinds_of, shape_in, shape_of, spans_in, spans_of, covering, IsPlaced, ArePlaced}

-- a shape has the tokens of its outline
mutual
  pub shape-kinds : (o : Outline) → kinds_of (shape_of o) ≡ kinds_of o
  shape-kinds (node span parts) = shape_in-kinds parts

  shape_in-kinds : (parts : Parts) → kinds_in (shape_in parts) ≡ kinds_in parts
  shape_in-kinds none = refl
  shape_in-kinds (token kind parts) = ap (λ ks. kind ∷ ks) (shape_in-kinds parts)
  shape_in-kinds (part o parts) = ap (λ ks. ks ++ kinds_in (shape_in parts)) (shape-kinds o) ∙ ap (λ ks. kinds_of o ++ ks) (shape_in-kinds parts)
  shape_in-kinds (provided condition parts) = shape_in-kinds parts

-- an outline is placed at as many tokens as it has
mutual
  pub placed_length : (o : Outline) (spans : List Span) → IsPlaced o spans → length spans ≡ length (kinds_of o)
  placed_length (node span parts) spans is = placed_in_length parts spans is.1

  placed_in_length : (parts : Parts) (spans : List Span) → ArePlaced parts spans → length spans ≡ length (kinds_in parts)
  placed_in_length none spans is = ap length is
  placed_in_length (token kind parts) [] is = absurd is
  placed_in_length (token kind parts) (first ∷ spans) is = omega (arith, placed_in_length parts spans is)
  placed_in_length (part o parts) spans (own, rest, split, inner, others) =
      ap length split ∙ length-append own rest ∙ omega (arith, placed_length o own inner, placed_in_length parts rest others, length-append (kinds_of o) (kinds_in parts))
  placed_in_length (provided condition parts) spans is = placed_in_length parts spans is

-- the spans of a shape's nodes on these tokens
abbrev mutual
  spans_on : Outline → List Span → List Span
  spans_on (node span parts) tokens = covering tokens ∷ spans_along parts tokens

  spans_along : Parts → List Span → List Span
  spans_along none tokens = []
  spans_along (token kind parts) tokens = spans_along parts (drop 1 tokens)
  spans_along (part o parts) tokens =
      spans_on o (take (length (kinds_of o)) tokens) ++ spans_along parts (drop (length (kinds_of o)) tokens)
  spans_along (provided condition parts) tokens = spans_along parts tokens

front_of : {A : Type 0} (own rest : List A) → take (length own) (own ++ rest) ≡ own
front_of [] rest = refl
front_of {A} (x ∷ own) rest = ap (λ (xs : List A). x ∷ xs) (front_of own rest)

behind_of : {A : Type 0} (own rest : List A) → drop (length own) (own ++ rest) ≡ rest
behind_of [] rest = refl
behind_of (x ∷ own) rest = behind_of own rest

mutual
  placed_spans : (o : Outline) (tokens : List Span) → IsPlaced o tokens → spans_of o ≡ spans_on (shape_of o) tokens
  placed_spans (node span parts) tokens is =
      ap (λ s. s ∷ spans_in parts) is.0 ∙ ap (λ ss. covering tokens ∷ ss) (placed_along parts tokens is.1)

  placed_along : (parts : Parts) (tokens : List Span) → ArePlaced parts tokens → spans_in parts ≡ spans_along (shape_in parts) tokens
  placed_along none tokens is = refl
  placed_along (token kind parts) [] is = absurd is
  placed_along (token kind parts) (first ∷ tokens) is = placed_along parts tokens is
  placed_along (part o parts) tokens (own, rest, split, inner, others) =
      let size : length (kinds_of (shape_of o)) ≡ length own = ap length (shape-kinds o) ∙ sym (placed_length o own inner) in
      let front : take (length (kinds_of (shape_of o))) tokens ≡ own = ap (λ n. take n tokens) size ∙ ap (take (length own)) split ∙ front_of own rest in
      let behind : drop (length (kinds_of (shape_of o))) tokens ≡ rest = ap (λ n. drop n tokens) size ∙ ap (drop (length own)) split ∙ behind_of own rest in
      ap (λ ss. ss ++ spans_in parts) (placed_spans o own inner ∙ ap (spans_on (shape_of o)) (sym front))
      ∙ ap (λ ss. spans_on (shape_of o) (take (length (kinds_of (shape_of o))) tokens) ++ ss)
      (placed_along parts rest others ∙ ap (spans_along (shape_in parts)) (sym behind))
  placed_along (provided condition parts) tokens is = placed_along parts tokens is

pub same_spans : (o p : Outline) (tokens : List Span) → shape_of o ≡ shape_of p → IsPlaced o tokens → IsPlaced p tokens → spans_of o ≡ spans_of p
same_spans o p tokens same is also =
    placed_spans o tokens is ∙ ap (λ s. spans_on s tokens) same ∙ sym (placed_spans p tokens also)

pub same_spans_along : (a b : Parts) (tokens : List Span) → shape_in a ≡ shape_in b → ArePlaced a tokens → ArePlaced b tokens → spans_in a ≡ spans_in b
same_spans_along a b tokens same is also =
    placed_along a tokens is ∙ ap (λ s. spans_along s tokens) same ∙ sym (placed_along b tokens also)
