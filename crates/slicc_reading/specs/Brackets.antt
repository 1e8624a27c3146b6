-- Tokens in which brackets close in pairs, and those between an opening sign and a closing one.
use Rattle.std.specs.Prelude.{ℕ, List, [], ◌∷◌}
use Rattle.slicc_ast.specs.declared.tree.balanced.Balanced.{Balanced}
use Rattle.slicc_ast.specs.declared.tree.token.Sign.{Sign}
use Rattle.slicc_ast.specs.declared.tree.token.Sign.TheVariants.{OpenBrace, OpenBracket, OpenParenthesis}
use Rattle.slicc_ast.specs.Names.{balanced as balanced_parts, sign as sign_of}
use Rattle.slicc_ast.specs.Prelude.{balanced_list, Outline, node, Parts, done, nested, ◌▸◌, sign_kind}
use Rattle.slicc_ast.specs.Parts.{Part, balanced, sign}

abbrev pub balanced_outline : Balanced → Outline
balanced_outline b = node b.span (balanced_list b.parts)

abbrev pub bracketed : Sign → Sign → Part
bracketed opener closer = nested (sign_kind opener ∷ []) ((balanced ▸ sign closer) done)

abbrev pub bracketed_parts : Sign → Sign → Balanced → Parts → Parts
bracketed_parts opener closer b others = sign_of opener (balanced_parts b (sign_of closer others))

-- the brackets that open a pair
abbrev pub opening_brackets : List ℕ
opening_brackets = sign_kind OpenParenthesis ∷ sign_kind OpenBracket ∷ sign_kind OpenBrace ∷ []
