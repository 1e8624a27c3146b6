-- A tree as the grammar sees it: a node is a row of parts, which are tokens and further nodes. From it come the tokens
-- that a tree is spelled by, the spans of its nodes, and what it is apart from them. Each span that a tree keeps is that
-- of one node, so that where a form is one other form alone the two are one node.
use Rattle.std.specs.Prelude.{◌≡◌, ◌++◌, ◌&&◌, ℕ, Bool, true, List, [], ◌∷◌}
use Rattle.slicc_ast.specs.declared.tree.span.Span.{Span}
use Rattle.slicc_ast.specs.declared.tree.token.TokenKind.{TokenKind}

mutual
  pub data Outline : Type 0 where
    node : Span → Parts → Outline

  -- parts in a row
  pub data Parts : Type 0 where
    none : Parts
    token : TokenKind → Parts → Parts
    part : Outline → Parts → Parts
    -- the parts are spelled so only where this holds
    provided : Bool → Parts → Parts

-- the kinds of the tokens, from the first to the last
abbrev mutual
  pub kinds_of : Outline → List TokenKind
  kinds_of (node span parts) = kinds_in parts

  pub kinds_in : Parts → List TokenKind
  kinds_in none = []
  kinds_in (token kind parts) = kind ∷ kinds_in parts
  kinds_in (part outline parts) = kinds_of outline ++ kinds_in parts
  kinds_in (provided condition parts) = kinds_in parts

-- all conditions of the nodes hold
abbrev mutual
  pub is_allowed : Outline → Bool
  is_allowed (node span parts) = are_allowed parts

  pub are_allowed : Parts → Bool
  are_allowed none = true
  are_allowed (token kind parts) = are_allowed parts
  are_allowed (part outline parts) = is_allowed outline && are_allowed parts
  are_allowed (provided condition parts) = condition && are_allowed parts

-- the nodes' spans in the order of the text, each before those of the nodes in it
abbrev mutual
  pub spans_of : Outline → List Span
  spans_of (node span parts) = span ∷ spans_in parts

  pub spans_in : Parts → List Span
  spans_in none = []
  spans_in (token kind parts) = spans_in parts
  spans_in (part outline parts) = spans_of outline ++ spans_in parts
  spans_in (provided condition parts) = spans_in parts

abbrev pub no_span : Span
no_span = record { file = 0; start = 0; end = 0 }

-- the same with no spans and no conditions: two trees that keep the conditions are equal, spans aside, where these are
abbrev mutual
  pub shape_of : Outline → Outline
  shape_of (node span parts) = node no_span (shape_in parts)

  pub shape_in : Parts → Parts
  shape_in none = none
  shape_in (token kind parts) = token kind (shape_in parts)
  shape_in (part outline parts) = part (shape_of outline) (shape_in parts)
  shape_in (provided condition parts) = shape_in parts

-- where the last of the spans ends
abbrev pub last_end : Span → List Span → ℕ
last_end span [] = span.end
last_end span (next ∷ spans) = last_end next spans

-- from the start of the first token's span to the end of the last one's, in the first one's file
abbrev pub covering : List Span → Span
covering [] = no_span
covering (first ∷ others) = record { file = first.file; start = first.start; end = last_end first others }

-- each node covers its own tokens, whose spans these are
abbrev mutual
  pub IsPlaced : Outline → List Span → Type 0
  IsPlaced (node span parts) tokens = (span ≡ covering tokens) × ArePlaced parts tokens

  pub ArePlaced : Parts → List Span → Type 0
  ArePlaced none tokens = tokens ≡ []
  ArePlaced (token kind parts) [] = ⊥
  ArePlaced (token kind parts) (first ∷ tokens) = ArePlaced parts tokens
  ArePlaced (part outline parts) tokens =
      (own : List Span) × (rest : List Span) × (tokens ≡ own ++ rest) × IsPlaced outline own × ArePlaced parts rest
  ArePlaced (provided condition parts) tokens = ArePlaced parts tokens
