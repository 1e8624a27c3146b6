-- Where things stand in an outline: what a tree is made again by takes an outline's parts from these places.
use Rattle.std.specs.Prelude.{Bool, true, false, ℕ, List, [], ◌∷◌}
use Rattle.slicc_ast.specs.declared.tree.span.Span.{Span}
use Rattle.slicc_ast.specs.declared.tree.token.TokenKind.{TokenKind}
use Rattle.slicc_ast.specs.declared.tree.token.TokenKind.TheVariants.{Name, Number, Quoted, Word, Sign, End}
use Rattle.slicc_ast.specs.Outline.{token}
use Rattle.slicc_ast.specs.Prelude.{Outline, node, Parts, none, part, provided, no_span}

abbrev pub span_of : Outline → Span
span_of (node span parts) = span

abbrev pub parts_of : Outline → Parts
parts_of (node span parts) = parts

-- the nodes, without the tokens between them
abbrev pub nodes_in : Parts → List Outline
nodes_in none = []
nodes_in (token kind parts) = nodes_in parts
nodes_in (part outline parts) = outline ∷ nodes_in parts
nodes_in (provided condition parts) = nodes_in parts

abbrev pub nodes_of : Outline → List Outline
nodes_of (node span parts) = nodes_in parts

-- the first part is a token
abbrev pub is_token : Parts → Bool
is_token none = false
is_token (token kind parts) = true
is_token (part outline parts) = false
is_token (provided condition parts) = false

-- the parts behind the first one
abbrev pub beyond : Parts → Parts
beyond none = none
beyond (token kind parts) = parts
beyond (part outline parts) = parts
beyond (provided condition parts) = parts

abbrev pub past_token : Parts → Parts
past_token none = none
past_token (token kind parts) = parts
past_token (part outline parts) = part outline parts
past_token (provided condition parts) = parts

-- the first of the outlines
abbrev pub first : List Outline → Outline
first [] = node no_span none
first (outline ∷ outlines) = outline

abbrev pub others : List Outline → List Outline
others [] = []
others (outline ∷ outlines) = outlines

abbrev pub second : List Outline → Outline
second outlines = first (others outlines)

abbrev pub third : List Outline → Outline
third outlines = second (others outlines)

abbrev pub fourth : List Outline → Outline
fourth outlines = third (others outlines)

abbrev pub fifth : List Outline → Outline
fifth outlines = fourth (others outlines)

-- the text of a name or a string
abbrev pub text_of : TokenKind → List ℕ
text_of (Name text) = text
text_of (Number n) = []
text_of (Quoted text) = text
text_of (Word reserved) = []
text_of (Sign which) = []
text_of End = []

-- the text of the first token
abbrev pub text_in : Parts → List ℕ
text_in none = []
text_in (token kind parts) = text_of kind
text_in (part outline parts) = text_in parts
text_in (provided condition parts) = text_in parts
