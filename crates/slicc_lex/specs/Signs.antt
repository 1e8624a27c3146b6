-- The signs as they are written.
use Rattle.std.specs.Prelude.{ℕ, List, codes}
use Rattle.slicc_ast.specs.declared.tree.token.Sign.{Sign}
use Rattle.slicc_ast.specs.declared.tree.token.Sign.TheVariants.{OpenBrace, CloseBrace, OpenParenthesis, CloseParenthesis, OpenBracket, CloseBracket, Semicolon, Colon, Comma, Dot, Equals, Assign, Equal, Unequal, Less, Greater, LessOrEqual, GreaterOrEqual, Plus, Minus, Star, Not, And, Or}

abbrev pub sign_bytes : Sign → List ℕ
sign_bytes OpenBrace = codes "{"
sign_bytes CloseBrace = codes "}"
sign_bytes OpenParenthesis = codes "("
sign_bytes CloseParenthesis = codes ")"
sign_bytes OpenBracket = codes "["
sign_bytes CloseBracket = codes "]"
sign_bytes Semicolon = codes ";"
sign_bytes Colon = codes ":"
sign_bytes Comma = codes ","
sign_bytes Dot = codes "."
sign_bytes Equals = codes "="
sign_bytes Assign = codes ":="
sign_bytes Equal = codes "=="
sign_bytes Unequal = codes "!="
sign_bytes Less = codes "<"
sign_bytes Greater = codes ">"
sign_bytes LessOrEqual = codes "<="
sign_bytes GreaterOrEqual = codes ">="
sign_bytes Plus = codes "+"
sign_bytes Minus = codes "-"
sign_bytes Star = codes "*"
sign_bytes Not = codes "!"
sign_bytes And = codes "&&"
sign_bytes Or = codes "||"
