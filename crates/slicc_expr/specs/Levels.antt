-- The levels of operators between two operands, by their height: how far their operands are above unary expressions.
use Rattle.std.specs.Prelude.{◌≡◌, ◌+◌, ◌≤◌, true, ℕ, zero, suc, List, [], ◌∷◌}
use Rattle.slicc_ast.specs.declared.tree.token.TokenKind.TheVariants.{Sign as SignOf}
use Rattle.slicc_ast.specs.declared.tree.token.Sign.{Sign}
use Rattle.slicc_ast.specs.declared.tree.token.Sign.TheVariants.{OpenParenthesis, CloseParenthesis, Star, Plus, Minus, Less, Greater, LessOrEqual, GreaterOrEqual, Equal, Unequal, And, Or}
use Rattle.slicc_ast.specs.declared.tree.expression.Operator.{Operator}
use Rattle.slicc_ast.specs.declared.tree.token.TokenKind.{TokenKind}
use Rattle.slicc_ast.specs.declared.tree.token.Word.TheVariants.{True, False, Ood, New, IsValid, IsInvalid, StaticCast}
use Rattle.slicc_ast.specs.declared.tree.span.Span.{Span}
use Rattle.slicc_ast.specs.declared.tree.expression.Expr.{Expr}
use Rattle.slicc_ast.specs.Prelude.{expr, level_of, operator_level, operator_sign, node, none, done, form, many, nested, has, Form, unary, product, sum, order, equality, conjunction, expression, ◌▸◌, of, optional, comma, string, type, kind_of, number, sign_kind, word_kind}
use Rattle.slicc_ast.specs.Outline.{token}
use Rattle.slicc_ast.specs.Grammar.Row.{token as token_row}
use Rattle.slicc_ast.specs.Parts.{Part, sign, word}
use Rattle.slicc_lex.specs.declared.token.Token.{Token}

-- the form with operators of the levels below this height
abbrev pub form_at : ℕ → Form
form_at zero = unary
form_at (suc zero) = product
form_at (suc (suc zero)) = sum
form_at (suc (suc (suc zero))) = order
form_at (suc (suc (suc (suc zero)))) = equality
form_at (suc (suc (suc (suc (suc zero))))) = conjunction
form_at (suc (suc (suc (suc (suc (suc height)))))) = expression

-- the operators of the level
abbrev pub kinds_at : ℕ → List ℕ
kinds_at zero = sign_kind Star ∷ []
kinds_at (suc zero) = sign_kind Plus ∷ sign_kind Minus ∷ []
kinds_at (suc (suc zero)) = sign_kind Less ∷ sign_kind Greater ∷ sign_kind LessOrEqual ∷ sign_kind GreaterOrEqual ∷ []
kinds_at (suc (suc (suc zero))) = sign_kind Equal ∷ sign_kind Unequal ∷ []
kinds_at (suc (suc (suc (suc zero)))) = sign_kind And ∷ []
kinds_at (suc (suc (suc (suc (suc height))))) = sign_kind Or ∷ []

-- operators of one level, each with its operand
abbrev pub chain : ℕ → Part
chain height = many (token_row (kinds_at height) (form (form_at height) done))

-- so many levels from a height on, one behind the other
abbrev pub chains : ℕ → ℕ → Part
chains zero from row = row
chains (suc count) from row = chain from (chains count (suc from) row)

-- the first token is an operator of the height
pub record IsOperator (height : ℕ) (operator : Operator) (tokens left : List Token) : Type 0 where
  pub first : Token
  pub split : tokens ≡ first ∷ left
  pub is_sign : first.kind ≡ SignOf (operator_sign operator)
  pub level : operator_level operator + height ≡ 6

-- the tokens that are an expression by themselves, names aside
abbrev pub simple_kinds : List ℕ
simple_kinds = number ∷ word_kind True ∷ word_kind False ∷ word_kind Ood ∷ []

-- the tokens that other primary expressions begin with, names aside
abbrev pub longer_kinds : List ℕ
longer_kinds = word_kind New ∷ word_kind IsValid ∷ word_kind IsInvalid ∷ word_kind StaticCast ∷ sign_kind OpenParenthesis ∷ []

-- a token makes this expression
pub record IsSimple (kind : TokenKind) (span : Span) (e : Expr) : Type 0 where
  pub spells : expr e ≡ node span (token kind none)
  pub tight : 9 ≤ level_of e
  pub is_kind : has simple_kinds (kind_of kind) ≡ true

-- what is inside the parentheses of a cast
abbrev pub mode_part : Part
mode_part = optional (string ▸ comma)

abbrev pub cast_head : Part
cast_head = type ▸ comma ▸ mode_part

abbrev pub cast_inner : Part
cast_inner = cast_head ▸ of Form.expression ▸ sign CloseParenthesis

abbrev pub cast_part : Part
cast_part = word StaticCast ▸ nested (sign_kind OpenParenthesis ∷ []) (cast_inner done)

-- what is between an opening sign and a closing one
abbrev pub enclosed : Sign → Sign → Part → Part
enclosed opener closer inside = nested (sign_kind opener ∷ []) ((inside ▸ sign closer) done)
