-- Expressions as rows of parts. The operators of a node are of one level, and its operands of tighter ones, so that a list
-- of tokens is an expression in one way alone. Operators of one level group to the left.
use Rattle.std.specs.Prelude.{◌==◌, ℕ, Bool, true, false, nat_le, nat_lt, Option, Some, None, List, [], ◌∷◌}
use Rattle.slicc_ast.specs.declared.tree.token.TokenKind.TheVariants.{Name, Number as Numeral, Quoted}
use Rattle.slicc_ast.specs.declared.tree.token.Word.TheVariants.{True as TrueWord, False as FalseWord, Ood, New as NewWord, IsValid, IsInvalid, StaticCast}
use Rattle.slicc_ast.specs.declared.tree.token.Sign.{Sign}
use Rattle.slicc_ast.specs.declared.tree.token.Sign.TheVariants.{OpenParenthesis, CloseParenthesis, OpenBracket, CloseBracket, Colon, Comma, Dot, Equal as EqualSign, Unequal as UnequalSign, Less as LessSign, Greater as GreaterSign, LessOrEqual as LessOrEqualSign, GreaterOrEqual as GreaterOrEqualSign, Plus as PlusSign, Minus as MinusSign, Star, Not, And as AndSign, Or as OrSign}
use Rattle.slicc_ast.specs.declared.tree.expression.Operator.{Operator}
use Rattle.slicc_ast.specs.declared.tree.expression.Operator.TheVariants.{Or, And, Equal, Unequal, Less, Greater, LessOrEqual, GreaterOrEqual, Plus, Minus, Times}
use Rattle.slicc_ast.specs.declared.tree.expression.Args.{Args}
use Rattle.slicc_ast.specs.declared.tree.expression.Operand.{Operand}
use Rattle.slicc_ast.specs.declared.tree.expression.Suffix.{Suffix, Field, Method', Index}
use Rattle.slicc_ast.specs.declared.tree.expression.Expr.{Expr, Number, True, False, Nothing, Variable, Member, Call', New, Row_of-Expr, end_of-Expr, more_of-Expr, Row_of-Operand, end_of-Operand, more_of-Operand, Row_of-Suffix, end_of-Suffix, more_of-Suffix}
use Rattle.slicc_ast.specs.Boxes.{Operation', Not', Negate', Postfix', IsValid', IsInvalid', Cast', Group'}
use Rattle.slicc_ast.specs.Outline.{Outline, node, Parts, none, token, part, provided}
use Rattle.slicc_ast.specs.Names.{word, sign, name, type_name}

abbrev pub operator_sign : Operator → Sign
operator_sign Or = OrSign
operator_sign And = AndSign
operator_sign Equal = EqualSign
operator_sign Unequal = UnequalSign
operator_sign Less = LessSign
operator_sign Greater = GreaterSign
operator_sign LessOrEqual = LessOrEqualSign
operator_sign GreaterOrEqual = GreaterOrEqualSign
operator_sign Plus = PlusSign
operator_sign Minus = MinusSign
operator_sign Times = Star

-- how tightly an operator binds, the loosest first
abbrev pub operator_level : Operator → ℕ
operator_level Or = 1
operator_level And = 2
operator_level Equal = 3
operator_level Unequal = 3
operator_level Less = 4
operator_level Greater = 4
operator_level LessOrEqual = 4
operator_level GreaterOrEqual = 4
operator_level Plus = 5
operator_level Minus = 5
operator_level Times = 6

-- the level of operands behind a first one: that of the first operator, and 0 where there is none
abbrev pub row_level : {m : _} → Row_of-Operand m → ℕ
row_level end_of-Operand = 0
row_level (more_of-Operand operator value row) = operator_level operator

abbrev pub list_level : List Operand → ℕ
list_level [] = 0
list_level (first ∷ others) = operator_level first.operator

-- the level of an expression: that of its operators, then unary operators, then suffixes, then primary expressions
abbrev pub level_of : Expr → ℕ
level_of (Operation' first n others span) = row_level others
level_of (Not' operand span) = 7
level_of (Negate' operand span) = 7
level_of (Postfix' value n suffixes span) = 8
level_of _ = 9

-- there is a suffix
abbrev pub has_suffix : {m : _} → Row_of-Suffix m → Bool
has_suffix end_of-Suffix = false
has_suffix (more_of-Suffix first row) = true

-- STRING and a comma where there is one
abbrev pub mode_parts : Option (List ℕ) → Parts → Parts
mode_parts None parts = parts
mode_parts (Some text) parts = token (Quoted text) (sign Comma parts)

abbrev mutual
  pub expr : Expr → Outline
  expr (Operation' first n others span) =
      node span (provided (nat_lt 0 (row_level others)) (provided (nat_lt (row_level others) (level_of first))
      (part (expr first) (operand_row (row_level others) others))))
  expr (Not' operand span) = node span (provided (nat_le 7 (level_of operand)) (sign Not (part (expr operand) none)))
  expr (Negate' operand span) = node span (provided (nat_le 7 (level_of operand)) (sign MinusSign (part (expr operand) none)))
  expr (Postfix' value n suffixes span) =
      node span (provided (has_suffix suffixes) (provided (nat_le 9 (level_of value))
      (part (expr value) (suffix_row suffixes))))
  expr (Number n span) = node span (token (Numeral n) none)
  expr (True span) = node span (word TrueWord none)
  expr (False span) = node span (word FalseWord none)
  expr (Nothing span) = node span (word Ood none)
  expr (Variable variable) = node variable.span (token (Name variable.text) none)
  expr (Member owner member span) = node span (name owner (sign Colon (name member none)))
  expr (Call' function shape row arguments span) =
      node span (name function (sign OpenParenthesis (part (node arguments (args_row row)) (sign CloseParenthesis none))))
  expr (New made span) = node span (word NewWord (name made none))
  expr (IsValid' value span) =
      node span (word IsValid (sign OpenParenthesis (part (expr value) (sign CloseParenthesis none))))
  expr (IsInvalid' value span) =
      node span (word IsInvalid (sign OpenParenthesis (part (expr value) (sign CloseParenthesis none))))
  expr (Cast' target mode value span) =
      node span (word StaticCast (sign OpenParenthesis (type_name target (sign Comma
      (mode_parts mode (part (expr value) (sign CloseParenthesis none)))))))
  expr (Group' inner span) = node span (sign OpenParenthesis (part (expr inner) (sign CloseParenthesis none)))

  -- operators of the level, each with its operand behind it
  pub operand_row : {m : _} → ℕ → Row_of-Operand m → Parts
  operand_row level end_of-Operand = none
  operand_row level (more_of-Operand operator value row) =
      provided (operator_level operator == level) (provided (nat_lt level (level_of value))
      (sign (operator_sign operator) (part (expr value) (operand_row level row))))

  pub suffix : Suffix → Outline
  suffix (Field field span) = node span (sign Dot (name field none))
  suffix (Method' method shape row arguments span) =
      node span (sign Dot (name method
      (sign OpenParenthesis (part (node arguments (args_row row)) (sign CloseParenthesis none)))))
  suffix (Index key span) = node span (sign OpenBracket (part (expr key) (sign CloseBracket none)))

  pub suffix_row : {m : _} → Row_of-Suffix m → Parts
  suffix_row end_of-Suffix = none
  suffix_row (more_of-Suffix first row) = part (suffix first) (suffix_row row)

  -- arguments with a comma between each two
  pub args_row : {m : _} → Row_of-Expr m → Parts
  args_row end_of-Expr = none
  args_row (more_of-Expr first row) = part (expr first) (more_args_row row)

  pub more_args_row : {m : _} → Row_of-Expr m → Parts
  more_args_row end_of-Expr = none
  more_args_row (more_of-Expr first row) = sign Comma (part (expr first) (more_args_row row))

abbrev pub operand_list : ℕ → List Operand → Parts
operand_list level [] = none
operand_list level (first ∷ others) =
    provided (operator_level first.operator == level) (provided (nat_lt level (level_of first.value))
    (sign (operator_sign first.operator) (part (expr first.value) (operand_list level others))))

abbrev pub suffix_list : List Suffix → Parts
suffix_list [] = none
suffix_list (first ∷ others) = part (suffix first) (suffix_list others)

abbrev pub more_args : List Expr → Parts
more_args [] = none
more_args (first ∷ others) = sign Comma (part (expr first) (more_args others))

abbrev pub args_list : List Expr → Parts
args_list [] = none
args_list (first ∷ others) = part (expr first) (more_args others)

abbrev pub args : Args → Outline
args a = node a.span (args_list a.items)
