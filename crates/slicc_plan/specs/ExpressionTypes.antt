-- What an expression stands for in a body, whether it may be written, and what is broken in it. A name of a value stands for
-- that; a name that isn't there is told at it, and so are a member of an enumeration and a field that aren't there; an operand
-- of a type that the operator doesn't take is told at the operand. Operators of one level group to the left. Of a name that
-- isn't there no further complaint is made, but an operator or a call that it is in has its own type all the same. Parentheses
-- change nothing but where the expression starts.
use Rattle.std.specs.Prelude.{ℕ, Bool, true, false, cond, Option, None, Some, List, [], ◌∷◌, ◌++◌, find, map}
use Rattle.std.specs.Option.{option_map}
use Rattle.std.specs.Str.{bytes_eq}
use Rattle.slicc_ast.specs.declared.tree.span.Span.{Span}
use Rattle.slicc_ast.specs.declared.tree.name.Name.{Name}
use Rattle.slicc_ast.specs.declared.tree.name.TypeName.{TypeName}
use Rattle.slicc_ast.specs.declared.tree.item.Tree.{Tree}
use Rattle.slicc_ast.specs.declared.tree.machine.Machine.{Machine}
use Rattle.slicc_ast.specs.declared.tree.declaration.Member.TheVariants.{Field as FieldMember}
use Rattle.slicc_ast.specs.declared.tree.expression.Operator.{Operator}
use Rattle.slicc_ast.specs.declared.tree.expression.Operator.TheVariants.{Or, And, Equal, Unequal, Plus, Minus, Times}
use Rattle.slicc_ast.specs.declared.tree.expression.Suffix.{Suffix, Field, Method', Index}
use Rattle.slicc_ast.specs.declared.tree.expression.Expr.{Expr, Number, True, False, Nothing, Variable, Member, Call', New, Row_of-Expr, end_of-Expr, more_of-Expr, Row_of-Operand, end_of-Operand, more_of-Operand, Row_of-Suffix, end_of-Suffix, more_of-Suffix}
use Rattle.slicc_ast.specs.Prelude.{Operation', Not', Negate', Postfix', IsValid', IsInvalid', Cast', Group'}
use Rattle.slicc_plan.specs.declared.broken.Broken.{Broken}
use Rattle.slicc_plan.specs.declared.broken.Rule.TheVariants.{NotThere, NotAllowedHere, WrongType}
use Rattle.slicc_plan.specs.declared.built_in.BuiltInType.{BuiltInType}
use Rattle.slicc_plan.specs.declared.built_in.BuiltInType.TheVariants.{Int, Bool as Boolean, Request}
use Rattle.slicc_plan.specs.BuiltIn.{Nature, number, boolean, address, enumeration, other_value, structure, table, nothing, NamedType, is_among, members_of, nature_of, request_fields}
use Rattle.slicc_plan.specs.CallTypes.{Written, a_local, a_field, no_place, Typed, plain, Given, index_call, is_told, method_call, named_call}
use Rattle.slicc_plan.specs.Declarations.{Declaration, member, Scope, everywhere, within, first_named, machine_names}
use Rattle.slicc_plan.specs.Environment.{Bound, Environment, type_named, value_named, wrong_type_name}
use Rattle.slicc_plan.specs.Meanings.{Meaning, value, no_line, new_line, incoming, outgoing, unknown, Wanted, one_of, any_line, comparable, fits, like_it, of_built_in, told, unfit, value_of_type}
use Rattle.slicc_plan.specs.Types.{KnownType, built_in, enumerated, structured, type_in}

abbrev pub span_of : Expr → Span
span_of (Operation' first n others span) = span
span_of (Not' operand span) = span
span_of (Negate' operand span) = span
span_of (Postfix' inner n suffixes span) = span
span_of (Number n span) = span
span_of (True span) = span
span_of (False span) = span
span_of (Nothing span) = span
span_of (Variable n) = n.span
span_of (Member owner called span) = span
span_of (Call' called shape row arguments span) = span
span_of (New made span) = span
span_of (IsValid' inner span) = span
span_of (IsInvalid' inner span) = span
span_of (Cast' target mode inner span) = span
span_of (Group' inner span) = span

-- Names.

abbrev pub written_as : Bool → Written
written_as is_local = cond is_local a_local no_place

abbrev pub found_value : Name → Option Bound → Typed
found_value n None = plain unknown (told NotThere n.span ∷ [])
found_value n (Some b) = record { meaning = b.meaning; written = written_as b.is_local; broken = [] }

abbrev pub variable_type : Environment → Name → Typed
variable_type env n = found_value n (value_named env n.text)

abbrev pub is_enumeration_nature : Nature → Bool
is_enumeration_nature number = false
is_enumeration_nature boolean = false
is_enumeration_nature address = false
is_enumeration_nature enumeration = true
is_enumeration_nature other_value = false
is_enumeration_nature structure = false
is_enumeration_nature table = false
is_enumeration_nature nothing = false

-- the members of a type, where it is an enumeration
abbrev pub enumeration_members : List Tree → KnownType → Option (List (List ℕ))
enumeration_members trees (built_in b) =
    cond (is_enumeration_nature (nature_of b)) (Some (members_of (machine_names trees) b)) None
enumeration_members trees (enumerated scope text members) = Some members
enumeration_members trees (structured scope s) = None

abbrev pub member_among : KnownType → Name → Name → Option (List (List ℕ)) → Typed
member_among t owner called None = plain unknown (told WrongType owner.span ∷ [])
member_among t owner called (Some members) =
    cond (is_among members called.text) (plain (value t) []) (plain unknown (told NotThere called.span ∷ []))

abbrev pub member_of_type : Environment → Name → Name → Option KnownType → Typed
member_of_type env owner called None = plain unknown (wrong_type_name env owner.text owner.span)
member_of_type env owner called (Some t) = member_among t owner called (enumeration_members env.trees t)

abbrev pub member_type : Environment → Name → Name → Typed
member_type env owner called = member_of_type env owner called (type_named env owner.text)

-- Fields.

abbrev pub field_declared : List Tree → Machine → Scope → Option Declaration → Option Meaning
field_declared trees m scope (Some (member (FieldMember kind called attributes span))) =
    Some (value_of_type m (type_in trees scope kind.text))
field_declared trees m scope _ = None

abbrev pub request_field : List ℕ → Option Meaning
request_field text =
    option_map (λ (f : NamedType). value (built_in f.meaning)) (find (λ (f : NamedType). bytes_eq f.name text) request_fields)

abbrev pub built_in_field : BuiltInType → List ℕ → Option Meaning
built_in_field Request text = request_field text
built_in_field _ text = None

-- where the types of a structure's fields are looked up: what a body sees of a machine's structures is of its own machine
abbrev pub fields_scope : Machine → Scope → Scope
fields_scope m everywhere = everywhere
fields_scope m (within n) = within m

-- the field of this name in a type
abbrev pub field_in : List Tree → Machine → KnownType → List ℕ → Option Meaning
field_in trees m (built_in b) text = built_in_field b text
field_in trees m (enumerated scope name members) text = None
field_in trees m (structured scope s) text =
    field_declared trees m (fields_scope m scope) (first_named text (map member s.members))

abbrev pub found_field : Written → List Broken → Name → Option Meaning → Typed
found_field written broken n None = plain unknown (broken ++ told NotThere n.span ∷ [])
found_field written broken n (Some meaning) = record { meaning = meaning; written = written; broken = broken }

abbrev pub field_of : Environment → List Broken → Name → Meaning → Typed
field_of env broken n (value t) = found_field a_field broken n (field_in env.trees env.machine t n.text)
field_of env broken n (incoming t) = found_field no_place broken n (field_in env.trees env.machine t n.text)
field_of env broken n (outgoing t) = found_field a_field broken n (field_in env.trees env.machine t n.text)
field_of env broken n meaning = cond (is_told meaning) (plain unknown broken) (found_field no_place broken n None)

-- Operators.

abbrev pub wanted_left : Operator → Wanted
wanted_left Or = of_built_in Boolean
wanted_left And = of_built_in Boolean
wanted_left Equal = comparable
wanted_left Unequal = comparable
wanted_left _ = of_built_in Int

abbrev pub wanted_right : Operator → Meaning → Wanted
wanted_right Equal left = like_it left
wanted_right Unequal left = like_it left
wanted_right operator left = wanted_left operator

abbrev pub operator_type : Operator → BuiltInType
operator_type Plus = Int
operator_type Minus = Int
operator_type Times = Int
operator_type _ = Boolean

-- an operator between two operands
abbrev pub joined : Environment → Operator → Given → Given → Typed
joined env operator left right =
    plain (value (built_in (operator_type operator)))
    (left.typed.broken ++ right.typed.broken
    ++ unfit env.machine (wanted_left operator) left.place left.typed.meaning
    ++ unfit env.machine (wanted_right operator left.typed.meaning) right.place right.typed.meaning)

-- of an operand alone, where something is answered of this type
abbrev pub from_operand : Environment → Wanted → BuiltInType → Given → Typed
from_operand env wanted answered g =
    plain (value (built_in answered)) (g.typed.broken ++ unfit env.machine wanted g.place g.typed.meaning)

-- a value of this type, unless it is told that it is none
abbrev pub cast_meaning : Machine → KnownType → Meaning → Meaning
cast_meaning m t meaning = cond (fits m (one_of (t ∷ [])) meaning) (value_of_type m (Some t)) unknown

-- a value of the type whose name this is
abbrev pub cast_to : Environment → TypeName → Given → Option KnownType → Typed
cast_to env target g None = plain unknown (wrong_type_name env target.text target.span ++ g.typed.broken)
cast_to env target g (Some t) =
    plain (cast_meaning env.machine t g.typed.meaning)
    (g.typed.broken ++ unfit env.machine (one_of (t ∷ [])) g.place g.typed.meaning)

abbrev pub given_at : Span → Typed → Given
given_at place typed = record { place = place; typed = typed }

-- Expressions. What stands left of an operator or a suffix has its place where the whole expression starts.
abbrev mutual
  pub typed : Environment → Expr → Typed
  typed env (Operation' first n others span) = operands_typed env (span_of first) (typed env first) others
  typed env (Not' operand span) =
      from_operand env (of_built_in Boolean) Boolean (given_at (span_of operand) (typed env operand))
  typed env (Negate' operand span) =
      from_operand env (of_built_in Int) Int (given_at (span_of operand) (typed env operand))
  typed env (Postfix' inner n suffixes span) = suffixes_typed env span (typed env inner) suffixes
  typed env (Number n span) = plain (value (built_in Int)) []
  typed env (True span) = plain (value (built_in Boolean)) []
  typed env (False span) = plain (value (built_in Boolean)) []
  typed env (Nothing span) = plain no_line []
  typed env (Variable n) = variable_type env n
  typed env (Member owner called span) = member_type env owner called
  typed env (Call' called shape row arguments span) = named_call env span called (arguments_typed env row)
  typed env (New made span) = plain (new_line made) (told NotAllowedHere span ∷ [])
  typed env (IsValid' inner span) = from_operand env any_line Boolean (given_at (span_of inner) (typed env inner))
  typed env (IsInvalid' inner span) = from_operand env any_line Boolean (given_at (span_of inner) (typed env inner))
  typed env (Cast' target mode inner span) =
      cast_to env target (given_at (span_of inner) (typed env inner)) (type_named env target.text)
  typed env (Group' inner span) = typed env inner

  pub operands_typed : {m : _} → Environment → Span → Typed → Row_of-Operand m → Typed
  operands_typed env at left end_of-Operand = left
  operands_typed env at left (more_of-Operand operator inner row) =
      operands_typed env at (joined env operator (given_at at left) (given_at (span_of inner) (typed env inner))) row

  pub suffix_typed : Environment → Span → Typed → Suffix → Typed
  suffix_typed env at left (Field n span) = field_of env left.broken n left.meaning
  suffix_typed env at left (Method' called shape row arguments span) =
      method_call env at left called (arguments_typed env row)
  suffix_typed env at left (Index key span) = index_call env at left (given_at (span_of key) (typed env key))

  pub suffixes_typed : {m : _} → Environment → Span → Typed → Row_of-Suffix m → Typed
  suffixes_typed env at left end_of-Suffix = left
  suffixes_typed env at left (more_of-Suffix first row) = suffixes_typed env at (suffix_typed env at left first) row

  pub arguments_typed : {m : _} → Environment → Row_of-Expr m → List Given
  arguments_typed env end_of-Expr = []
  arguments_typed env (more_of-Expr first row) = given_at (span_of first) (typed env first) ∷ arguments_typed env row

-- what is broken in an expression where this is wanted
abbrev pub broken_where : Environment → Wanted → Expr → List Broken
broken_where env wanted e = (typed env e).broken ++ unfit env.machine wanted (span_of e) (typed env e).meaning
