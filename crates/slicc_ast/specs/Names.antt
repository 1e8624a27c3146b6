-- Names, balanced parts and the tokens between them, as rows of parts.
use Rattle.std.specs.Prelude.{Bool, true, false, List, [], ◌∷◌}
use Rattle.slicc_ast.specs.declared.tree.name.Name.{Name}
use Rattle.slicc_ast.specs.declared.tree.name.TypeName.{TypeName}
use Rattle.slicc_ast.specs.declared.tree.token.TokenKind.{TokenKind}
use Rattle.slicc_ast.specs.declared.tree.token.TokenKind.TheVariants.{Name as Named, Number, Quoted, Word, Sign, End}
use Rattle.slicc_ast.specs.declared.tree.token.Word.{Word as Reserved}
use Rattle.slicc_ast.specs.declared.tree.token.Sign.{Sign as SignKind}
use Rattle.slicc_ast.specs.declared.tree.token.Sign.TheVariants.{OpenBrace, CloseBrace, OpenParenthesis, CloseParenthesis, OpenBracket, CloseBracket, Star}
use Rattle.slicc_ast.specs.declared.tree.balanced.Part.{Part, Token, Parentheses', Brackets', Braces', Row_of-Part, end_of-Part, more_of-Part}
use Rattle.slicc_ast.specs.declared.tree.balanced.Balanced.{Balanced}
use Rattle.slicc_ast.specs.Outline.{node, Parts, none, token, part, provided}

-- a reserved word, and then the parts
abbrev pub word : Reserved → Parts → Parts
word reserved parts = token (Word reserved) parts

-- a sign, and then the parts
abbrev pub sign : SignKind → Parts → Parts
sign which parts = token (Sign which) parts

-- a star where there is one
abbrev pub star : Bool → Parts → Parts
star true parts = sign Star parts
star false parts = parts

-- NAME
abbrev pub name : Name → Parts → Parts
name n parts = part (node n.span (token (Named n.text) none)) parts

-- type := NAME
abbrev pub type_name : TypeName → Parts → Parts
type_name n parts = part (node n.span (token (Named n.text) none)) parts

-- no bracket of the three kinds and not the end
abbrev pub is_loose : TokenKind → Bool
is_loose (Named text) = true
is_loose (Number n) = true
is_loose (Quoted text) = true
is_loose (Word reserved) = true
is_loose (Sign OpenBrace) = false
is_loose (Sign CloseBrace) = false
is_loose (Sign OpenParenthesis) = false
is_loose (Sign CloseParenthesis) = false
is_loose (Sign OpenBracket) = false
is_loose (Sign CloseBracket) = false
is_loose (Sign _) = true
is_loose End = false

-- any tokens in which brackets close in pairs
abbrev mutual
  pub balanced_part : Part → Parts → Parts
  balanced_part (Token kind) parts = provided (is_loose kind) (token kind parts)
  balanced_part (Parentheses' shape row span) parts =
      sign OpenParenthesis (part (node span (balanced_row row)) (sign CloseParenthesis parts))
  balanced_part (Brackets' shape row span) parts =
      sign OpenBracket (part (node span (balanced_row row)) (sign CloseBracket parts))
  balanced_part (Braces' shape row span) parts =
      sign OpenBrace (part (node span (balanced_row row)) (sign CloseBrace parts))

  pub balanced_row : {m : _} → Row_of-Part m → Parts
  balanced_row end_of-Part = none
  balanced_row (more_of-Part first row) = balanced_part first (balanced_row row)

abbrev pub balanced_list : List Part → Parts
balanced_list [] = none
balanced_list (first ∷ others) = balanced_part first (balanced_list others)

abbrev pub balanced : Balanced → Parts → Parts
balanced b parts = part (node b.span (balanced_list b.parts)) parts
