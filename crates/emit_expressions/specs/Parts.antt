-- Parts of the code of expressions, under names by which contracts cite them. They say nothing of their own: the code of expressions
-- stands in `body_code`, with these parts written out.
use Rattle.std.specs.Prelude.{ℕ, true, false, Option, None, List, [], ◌∷◌}
use Rattle.slicc_ast.specs.declared.tree.expression.Operator.{Operator}
use Rattle.slicc_ast.specs.declared.tree.expression.Operator.TheVariants.{Or, And, Equal, Unequal, Less, Greater, LessOrEqual, GreaterOrEqual, Plus, Minus, Times}
use Rattle.slicc_ast.specs.declared.tree.expression.Operand.{Operand}
use Rattle.slicc_ast.specs.declared.tree.expression.Expr.{Expr, Number, True, False, Nothing, Variable, Member}
use Rattle.slicc_ast.specs.Prelude.{Not', Negate', IsValid'}
use Rattle.ruby_value.specs.declared.kind.Kind.{Kind}
use Rattle.ruby_value.specs.declared.kind.Kind.TheVariants as kind
use Rattle.ruby_value.specs.declared.value.Value.TheVariants as value
use Rattle.action_code.specs.declared.instr.Instr.{Instr}
use Rattle.action_code.specs.declared.instr.Instr.TheVariants as instr
use Rattle.body_meaning.specs.Prelude.{Reading}
use Rattle.body_code.specs.declared.left.Left.{Left}
use Rattle.body_code.specs.declared.left.Left.TheVariants as left
use Rattle.body_code.specs.declared.left.NameAt.{NameAt}
use Rattle.body_code.specs.declared.numbers.BodyNumbers.{BodyNumbers}
use Rattle.body_code.specs.Prelude.{Piece, after, arguments_by, formals_of, giving, just, kind_joined, kind_left, known, member_pushed, name_read, named_call, null, null_kind, operation_by, piece, then}
use Rattle.emit_expressions.specs.declared.operators.Unary.{Unary}
use Rattle.emit_expressions.specs.declared.operators.Unary.TheVariants.{Not, Negate, IsValid, IsInvalid}

-- what an operator does after both sides, where it isn't lazy
abbrev pub instructions_of : Operator → List Instr
instructions_of Or = []
instructions_of And = []
instructions_of Equal = instr.Eq ∷ []
instructions_of Unequal = instr.Eq ∷ instr.Not ∷ []
instructions_of Less = instr.Lt ∷ []
instructions_of Greater = instr.Le ∷ instr.Not ∷ []
instructions_of LessOrEqual = instr.Le ∷ []
instructions_of GreaterOrEqual = instr.Lt ∷ instr.Not ∷ []
instructions_of Plus = instr.Add ∷ []
instructions_of Minus = instr.Sub ∷ []
instructions_of Times = instr.Mul ∷ []

abbrev pub strict : Operator → Piece
strict operator = record { left = left.Value (kind_joined operator); code = just (instructions_of operator) }

-- what an expression makes of its operand, where it has one
abbrev pub unary_of : Expr → Unary
unary_of (Not' operand span) = Not
unary_of (Negate' operand span) = Negate
unary_of (IsValid' operand span) = IsValid
unary_of _ = IsInvalid

abbrev pub unary_made : Unary → Left → Piece
unary_made Not l = giving kind.Bool (instr.Not ∷ [])
unary_made Negate l = giving kind.Int (instr.Neg ∷ [])
unary_made IsValid l = giving kind.Bool (null (kind_left l) ∷ instr.Eq ∷ instr.Not ∷ [])
unary_made IsInvalid l = giving kind.Bool (null (kind_left l) ∷ instr.Eq ∷ [])

-- an expression that has no other one in it
abbrev pub leaf : Reading → List NameAt → Option Kind → Expr → Piece
leaf s names expected (Number k span) = giving kind.Int (instr.Push (value.Int k) 0 ∷ [])
leaf s names expected (True span) = giving kind.Bool (instr.Push (value.Bool true) 0 ∷ [])
leaf s names expected (False span) = giving kind.Bool (instr.Push (value.Bool false) 0 ∷ [])
leaf s names expected (Nothing span) = giving (null_kind expected) (null (null_kind expected) ∷ [])
leaf s names expected (Variable name) = name_read s names name.text
leaf s names expected (Member owner member span) = member_pushed s owner.text member.text
leaf s names expected _ = known left.Nothing

module _ (s : Reading) (n : BodyNumbers) (names : List NameAt) where
  abbrev pub of_operand : Unary → Expr → Piece
  of_operand unary e = then (piece s n names None e) (unary_made unary)

  -- an operator and its right side
  abbrev pub operation : Operand → Piece
  operation o = operation_by o.operator (piece s n names None o.value).code

  abbrev pub operands_by : Left → List Operand → Piece
  operands_by l [] = known l
  operands_by l (first ∷ others) = then (operation first) (λ next. operands_by next others)

  -- a call without a receiver
  abbrev pub called : List ℕ → List Expr → Piece
  called text given = after (arguments_by s n names (formals_of s text) given) (named_call s n text)
