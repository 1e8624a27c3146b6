-- The operators between two operands. `&&` and `||` are lazy: where the left side decides, the right one isn't evaluated.
use Rattle.std.specs.Prelude.{ℤ, Bool, true, false, not, Option, None, Some, Result, Ok, Err}
use Rattle.slicc_ast.specs.declared.tree.expression.Operator.{Operator}
use Rattle.slicc_ast.specs.declared.tree.expression.Operator.TheVariants.{Or, And, Equal, Unequal, Less, Greater, LessOrEqual, GreaterOrEqual, Plus, Minus, Times}
use Rattle.ruby_value.specs.declared.value.Value.{Value}
use Rattle.ruby_value.specs.declared.value.Value.TheVariants as value
use Rattle.acts.specs.declared.body_fault.BodyFault.{BodyFault}
use Rattle.built_in_acts.specs.Prelude.{are_equal, difference, is_at_most, is_less, negation, product, sum, truth}

-- what the left side decides alone
abbrev pub settled_by : Operator → Bool → Option Value
settled_by Or true = Some (value.Bool true)
settled_by And false = Some (value.Bool false)
settled_by _ _ = None

abbrev pub settled : Operator → Value → Option Value
settled op left = settled_by op (truth left)

abbrev pub number_made : Result ℤ BodyFault → Result Value BodyFault
number_made (Ok n) = Ok (value.Int n)
number_made (Err f) = Err f

-- of two sides, where the left one doesn't decide
abbrev pub joined : Operator → Value → Value → Result Value BodyFault
joined Or a b = Ok (value.Bool (truth b))
joined And a b = Ok (value.Bool (truth b))
joined Equal a b = Ok (value.Bool (are_equal a b))
joined Unequal a b = Ok (value.Bool (not (are_equal a b)))
joined Less a b = Ok (value.Bool (is_less a b))
joined Greater a b = Ok (value.Bool (is_less b a))
joined LessOrEqual a b = Ok (value.Bool (is_at_most a b))
joined GreaterOrEqual a b = Ok (value.Bool (is_at_most b a))
joined Plus a b = number_made (sum a b)
joined Minus a b = number_made (difference a b)
joined Times a b = number_made (product a b)

abbrev pub negated : Value → Result Value BodyFault
negated a = number_made (negation a)
