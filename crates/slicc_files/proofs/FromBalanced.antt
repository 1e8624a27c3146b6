-- Balanced parts from their outlines. A bracket is one where a node stands behind it.
use Rattle.std.proofs.Common.{◌≡◌, List, [], ◌∷◌, refl, ap, ◌∙◌}
use Rattle.std.proofs.Math.Path.{ap₂}
use Rattle.slicc_ast.specs.declared.tree.span.Span.{Span}
use Rattle.slicc_ast.specs.declared.tree.token.TokenKind.{TokenKind}
use Rattle.slicc_ast.specs.declared.tree.token.TokenKind.TheVariants.{Sign}
use Rattle.slicc_ast.specs.declared.tree.token.Sign.TheVariants.{OpenParenthesis, OpenBracket, OpenBrace}
use Rattle.slicc_ast.specs.declared.tree.balanced.Part.{Part, Token, Parentheses', Brackets', Braces', Row_of-Part, end_of-Part, more_of-Part}
use Rattle.slicc_ast.specs.declared.tree.balanced.Balanced.{Balanced}
use Rattle.slicc_ast.specs.Outline.{token}
use Rattle.slicc_ast.specs.Prelude.{Outline, node, Parts, none, part, provided, balanced_row, balanced_list}
use Rattle.slicc_ast.specs.Names.{balanced_part}
use Rattle.slicc_files.proofs.Bare.{bare_in}
use Rattle.slicc_files.proofs.Rows.{PartRow, listed_parts, part_row, part_row_again}
use Rattle.slicc_files.proofs.Places.{span_of}

-- parts, each node with the balanced parts that were made of it
pub data Balances : Type 0 where
  ended : Balances
  with_token : TokenKind → Balances → Balances
  with_node : Span → List Part → Balances → Balances

-- the part that a token begins
abbrev bracket : TokenKind → Span → List Part → Part
bracket (Sign OpenParenthesis) span inner =
    let row = part_row inner in
    Parentheses' row.0 row.1 span
bracket (Sign OpenBracket) span inner =
    let row = part_row inner in
    Brackets' row.0 row.1 span
bracket (Sign OpenBrace) span inner =
    let row = part_row inner in
    Braces' row.0 row.1 span
bracket kind span inner = Token kind

abbrev begun : TokenKind → Balances → Part
begun kind ended = Token kind
begun kind (with_token next left) = Token kind
begun kind (with_node span inner left) = bracket kind span inner

abbrev parts_made : Balances → List Part
parts_made ended = []
parts_made (with_token kind left) = begun kind left ∷ parts_made left
parts_made (with_node span inner ended) = []
parts_made (with_node span inner (with_token kind left)) = parts_made left
parts_made (with_node span inner (with_node s i left)) = []

abbrev mutual
  balances_of : Outline → List Part
  balances_of (node span parts) = parts_made (balances_in parts)

  balances_in : Parts → Balances
  balances_in none = ended
  balances_in (token kind parts) = with_token kind (balances_in parts)
  balances_in (part outline parts) = with_node (span_of outline) (balances_of outline) (balances_in parts)
  balances_in (provided condition parts) = balances_in parts

abbrev pub balanced_from : Outline → Balanced
balanced_from o = record { parts = balances_of o; span = span_of o }

-- no node stands behind a token that is no bracket
token_begins : {m : _} (kind : TokenKind) (row : Row_of-Part m) → begun kind (balances_in (bare_in (balanced_row row))) ≡ Token kind
token_begins kind end_of-Part = refl
token_begins kind (more_of-Part (Token next) row) = refl
token_begins kind (more_of-Part (Parentheses' shape inner span) row) = refl
token_begins kind (more_of-Part (Brackets' shape inner span) row) = refl
token_begins kind (more_of-Part (Braces' shape inner span) row) = refl

row_again : {m : _} (row : Row_of-Part m) → parts_made (balances_in (bare_in (balanced_row row))) ≡ listed_parts row
row_again end_of-Part = refl
row_again (more_of-Part (Token kind) row) = ap₂ (λ (p : Part) (ps : List Part). p ∷ ps) (token_begins kind row) (row_again row)
row_again (more_of-Part (Parentheses' shape inner span) row) =
    ap₂ (λ (p : Part) (ps : List Part). p ∷ ps)
    (ap (λ (ps : List Part). Parentheses' (part_row ps).0 (part_row ps).1 span) (row_again inner)
    ∙ ap (λ (r : PartRow). Parentheses' r.0 r.1 span) (part_row_again shape inner)) (row_again row)
row_again (more_of-Part (Brackets' shape inner span) row) =
    ap₂ (λ (p : Part) (ps : List Part). p ∷ ps)
    (ap (λ (ps : List Part). Brackets' (part_row ps).0 (part_row ps).1 span) (row_again inner)
    ∙ ap (λ (r : PartRow). Brackets' r.0 r.1 span) (part_row_again shape inner)) (row_again row)
row_again (more_of-Part (Braces' shape inner span) row) =
    ap₂ (λ (p : Part) (ps : List Part). p ∷ ps)
    (ap (λ (ps : List Part). Braces' (part_row ps).0 (part_row ps).1 span) (row_again inner)
    ∙ ap (λ (r : PartRow). Braces' r.0 r.1 span) (part_row_again shape inner)) (row_again row)

list_as_row : (ps : List Part) → balanced_list ps ≡ balanced_row (part_row ps).1
list_as_row [] = refl
list_as_row (first ∷ others) = ap (λ parts. balanced_part first parts) (list_as_row others)

listed_again : (ps : List Part) → listed_parts (part_row ps).1 ≡ ps
listed_again [] = refl
listed_again (first ∷ others) = ap (λ (ps : List Part). first ∷ ps) (listed_again others)

list_again : (ps : List Part) → parts_made (balances_in (bare_in (balanced_list ps))) ≡ ps
list_again ps = ap (λ parts. parts_made (balances_in (bare_in parts))) (list_as_row ps) ∙ row_again (part_row ps).1 ∙ listed_again ps

pub balanced_again : (b : Balanced) → balanced_from (node b.span (bare_in (balanced_list b.parts))) ≡ b
balanced_again b = ap (λ (ps : List Part). record b { parts = ps }) (list_again b.parts)
