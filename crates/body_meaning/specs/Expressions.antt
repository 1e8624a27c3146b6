-- What an expression gives in a body. Operands, receivers and arguments are evaluated from left to right, and an operator of a row
-- with all on its left. A call that changes its receiver, and one that changes the references of a transition, are told where
-- statements are: they answer nothing, so that no accepted protocol has one inside of another expression.
use Rattle.std.specs.Prelude.{ℕ, true, false, not, Option, None, Some, List, [], ◌∷◌, ◌++◌, is_none, is_some}
use Rattle.std.specs.Option.{option_or}
use Rattle.slicc_ast.specs.declared.tree.expression.Operand.{Operand}
use Rattle.slicc_ast.specs.declared.tree.expression.Operator.{Operator}
use Rattle.slicc_ast.specs.declared.tree.expression.Suffix.{Suffix, Field, Method', Index}
use Rattle.slicc_ast.specs.declared.tree.expression.Expr.{Expr, Number, True, False, Nothing, Variable, Member, Call', New, Row_of-Expr, end_of-Expr, more_of-Expr, Row_of-Operand, end_of-Operand, more_of-Operand, Row_of-Suffix, end_of-Suffix, more_of-Suffix}
use Rattle.slicc_ast.specs.Prelude.{Operation', Not', Negate', Postfix', IsValid', IsInvalid', Cast', Group'}
use Rattle.ruby_value.specs.declared.value.Ref.{Ref}
use Rattle.ruby_value.specs.declared.value.Value.{Value}
use Rattle.ruby_value.specs.declared.value.Value.TheVariants as plain
use Rattle.acts.specs.declared.body_fault.BodyFault.TheVariants as own
use Rattle.acts.specs.Prelude.{Acting, ends, stops, ◌>>=◌, decided, found, given}
use Rattle.built_in_acts.specs.Prelude.{reference, truth}
use Rattle.body_meaning.specs.declared.frame.Frame.{Frame}
use Rattle.body_meaning.specs.Reading.{Reading}
use Rattle.body_meaning.specs.declared.thing.Thing.{Thing}
use Rattle.body_meaning.specs.declared.thing.Thing.TheVariants as thing
use Rattle.body_meaning.specs.Calls.{Calls, index, method_call, named_call, value_found}
use Rattle.body_meaning.specs.Names.{declared, line_field, member_value, message_field, thing_got}
use Rattle.body_meaning.specs.Each.{each}
use Rattle.body_meaning.specs.Frames.{thing_about, thing_bound}
use Rattle.body_meaning.specs.Operators.{joined, negated, settled}
use Rattle.body_meaning.specs.Things.{boolean, no_line, value_in}

-- Names: what the body has of its own hides what the machine declares.

abbrev pub thing_in : Reading → Frame → List ℕ → Option Thing
thing_in s frame text = option_or (thing_bound text frame.names) (thing_about s.machine frame.about text)

abbrev pub variable_or : Reading → List ℕ → Option Thing → Acting Thing
variable_or s text None = declared s.machine text
variable_or s text (Some t) = ends t

unfoldable pub variable : Reading → Frame → List ℕ → Acting Thing
variable s frame text = variable_or s text (thing_in s frame text)

-- Fields, of messages and through references.

unfoldable pub field_at : Reading → List ℕ → Ref → Acting Thing
field_at s text r = found own.Reference (line_field s r.table text) >>= (λ k. thing_got r k)

unfoldable pub field_through : Reading → Value → List ℕ → Acting Thing
field_through s v text = found own.Reference (reference v) >>= (λ (r : Ref). field_at s text r)

abbrev pub field_in : Reading → List ℕ → Thing → Acting Thing
field_in s text (thing.Value v) = field_through s v text
field_in s text (thing.Message structure fields) = value_found (message_field s structure fields text)
field_in s text _ = stops own.Reference

-- the left side of an operator decides, or the right one is evaluated
unfoldable pub operated : Operator → Value → Acting Thing → Acting Value
operated op left right = decided (settled op left) (right >>= (λ t. given (joined op left (value_in t))))

unfoldable pub negation_of : Thing → Acting Thing
negation_of t = given (negated (value_in t)) >>= (λ v. ends (thing.Value v))

-- one more value behind those before
unfoldable pub with_value : List Value → Acting Thing → Acting (List Value)
with_value before p = p >>= (λ t. ends (before ++ value_in t ∷ []))

-- a negation of a truth value, and whether a reference is to a line, or to nothing
abbrev pub not_so : Thing → Thing
not_so t = boolean (not (truth (value_in t)))

abbrev pub names_line : Thing → Thing
names_line t = boolean (is_some (reference (value_in t)))

abbrev pub names_nothing : Thing → Thing
names_nothing t = boolean (is_none (reference (value_in t)))

module _ (s : Reading) (calls : Calls) (frame : Frame) where
  abbrev mutual
    pub value : Expr → Acting Thing
    value (Operation' first n others span) =
        value first >>= (λ t. operands (value_in t) others >>= (λ v. ends (thing.Value v)))
    value (Not' operand span) = value operand >>= (λ t. ends (not_so t))
    value (Negate' operand span) = value operand >>= negation_of
    value (Postfix' inner n suffixes span) = value inner >>= (λ t. suffixed_all t suffixes)
    value (Number n span) = ends (thing.Value (plain.Int n))
    value (True span) = ends (boolean true)
    value (False span) = ends (boolean false)
    value (Nothing span) = ends no_line
    value (Variable name) = variable s frame name.text
    value (Member owner member span) = value_found (member_value s owner.text member.text)
    value (Call' called shape row arguments span) = values [] row >>= named_call s calls called.text
    value (New made span) = ends thing.Nothing
    value (IsValid' inner span) = value inner >>= (λ t. ends (names_line t))
    value (IsInvalid' inner span) = value inner >>= (λ t. ends (names_nothing t))
    value (Cast' target mode inner span) = value inner
    value (Group' inner span) = value inner

    pub operands : {m : _} → Value → Row_of-Operand m → Acting Value
    operands left end_of-Operand = ends left
    operands left (more_of-Operand operator inner row) = operated operator left (value inner) >>= (λ v. operands v row)

    pub suffixed : Thing → Suffix → Acting Thing
    suffixed t (Field name span) = field_in s name.text t
    suffixed t (Method' called shape row arguments span) = values [] row >>= method_call s t called.text
    suffixed t (Index key span) = value key >>= (λ k. index s t (value_in k))

    pub suffixed_all : {m : _} → Thing → Row_of-Suffix m → Acting Thing
    suffixed_all t end_of-Suffix = ends t
    suffixed_all t (more_of-Suffix first row) = suffixed t first >>= (λ u. suffixed_all u row)

    -- those before, and then these
    pub values : {m : _} → List Value → Row_of-Expr m → Acting (List Value)
    values before end_of-Expr = ends before
    values before (more_of-Expr first row) = with_value before (value first) >>= (λ vs. values vs row)

  -- operands, suffixes and arguments as lists
  abbrev pub operand_step : Value → Operand → Acting Value
  operand_step left o = operated o.operator left (value o.value)

  abbrev pub value_step : List Value → Expr → Acting (List Value)
  value_step before e = with_value before (value e)

  -- an expression and suffixes behind it
  unfoldable pub value_behind : Expr → List Suffix → Acting Thing
  value_behind inner suffixes = value inner >>= (λ t. each suffixed t suffixes)

  unfoldable pub values_of : List Expr → Acting (List Value)
  values_of arguments = each value_step [] arguments
