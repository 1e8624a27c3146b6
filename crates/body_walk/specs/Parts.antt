-- What the answers of a walk mean, and parts of what expressions give, under names by which its contracts cite them. They say nothing of
-- their own: what an expression gives stands in `body_meaning`, with these parts written out.
use Rattle.std.specs.Prelude.{ℕ, true, false, not, Result, Ok, List, is_none, is_some}
use Rattle.slicc_ast.specs.declared.tree.expression.Expr.{Expr, Number, True, False, Nothing, Variable, Member}
use Rattle.slicc_ast.specs.declared.tree.expression.Operand.{Operand}
use Rattle.slicc_ast.specs.Prelude.{Not', Negate', IsValid'}
use Rattle.ruby_value.specs.declared.value.Value.{Value}
use Rattle.ruby_value.specs.declared.value.Value.TheVariants as plain
use Rattle.acts.specs.declared.body_fault.BodyFault.{BodyFault}
use Rattle.acts.specs.Prelude.{Acting, ends, given, ◌>>=◌}
use Rattle.built_in_acts.specs.Prelude.{reference, truth}
use Rattle.body_meaning.specs.declared.frame.Frame.{Frame}
use Rattle.body_meaning.specs.declared.thing.Thing.{Thing}
use Rattle.body_meaning.specs.declared.thing.Thing.TheVariants as thing
use Rattle.body_meaning.specs.Prelude.{Calls, named_call, value_found, each, operand_step, value, values_of, variable, member_value, negated, Reading, boolean, no_line, value_in}
use Rattle.body_walk.specs.declared.places.Unary.{Unary}
use Rattle.body_walk.specs.declared.places.Unary.TheVariants.{Not, Negate, IsValid, IsInvalid}

-- of a call that changes what the body has of its own, and answers nothing
abbrev pub left_frame : Frame → Unit {0} → Frame
left_frame frame done = frame

-- what an expression makes of its operand, where it has one
abbrev pub unary_of : Expr → Unary
unary_of (Not' operand span) = Not
unary_of (Negate' operand span) = Negate
unary_of (IsValid' operand span) = IsValid
unary_of _ = IsInvalid

-- what is made of one operand
abbrev pub value_made : Unary → Value → Result Value BodyFault
value_made Not v = Ok (plain.Bool (not (truth v)))
value_made Negate v = negated v
value_made IsValid v = Ok (plain.Bool (is_some (reference v)))
value_made IsInvalid v = Ok (plain.Bool (is_none (reference v)))

unfoldable pub thing_made : Unary → Thing → Acting Thing
thing_made unary t = given (value_made unary (value_in t)) >>= (λ v. ends (thing.Value v))

-- what an expression gives that has no other one in it
abbrev pub leaf : Reading → Frame → Expr → Acting Thing
leaf s frame (Number n span) = ends (thing.Value (plain.Int n))
leaf s frame (True span) = ends (boolean true)
leaf s frame (False span) = ends (boolean false)
leaf s frame (Nothing span) = ends no_line
leaf s frame (Variable name) = variable s frame name.text
leaf s frame (Member owner member span) = value_found (member_value s owner.text member.text)
leaf s frame _ = ends thing.Nothing

module _ (s : Reading) (calls : Calls) (frame : Frame) where
  abbrev pub of_operand : Unary → Expr → Acting Thing
  of_operand unary operand = value s calls frame operand >>= thing_made unary

  -- operators with their right sides, behind a value
  abbrev pub operation : Value → List Operand → Acting Thing
  operation left others = each (operand_step s calls frame) left others >>= (λ v. ends (thing.Value v))

  -- a call without a receiver
  abbrev pub called : List ℕ → List Expr → Acting Thing
  called text arguments = values_of s calls frame arguments >>= named_call s calls text
