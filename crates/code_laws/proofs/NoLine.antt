-- Only `OOD`, in parentheses or not, is typed as such. All else has a type of its own.
use Rattle.std.proofs.Common.{◌≡◌, ◌∙◌, ◌++◌, ℕ, Bool, true, false, cond, Option, None, Some, List, [], ◌∷◌, codes, find, map, refl, sym, subst}
use Rattle.std.specs.Option.{option_map}
use Rattle.std.specs.Str.{bytes_eq}
use Rattle.slicc_ast.specs.declared.tree.declaration.Function.TheVariants.{Plain, Skipped}
use Rattle.slicc_ast.specs.declared.tree.declaration.Member.TheVariants.{Field as FieldMember}
use Rattle.slicc_ast.specs.declared.tree.declaration.Structure.{Structure}
use Rattle.slicc_ast.specs.declared.tree.expression.Expr.{Expr, Number, True, False, Nothing, Variable, Member, Call', New, Row_of-Operand, end_of-Operand, more_of-Operand, Row_of-Suffix, end_of-Suffix, more_of-Suffix}
use Rattle.slicc_ast.specs.declared.tree.expression.Suffix.{Suffix, Field, Method', Index}
use Rattle.slicc_ast.specs.declared.tree.machine.Machine.{Machine}
use Rattle.slicc_ast.specs.declared.tree.name.Name.{Name}
use Rattle.slicc_ast.specs.declared.tree.name.TypeName.{TypeName}
use Rattle.slicc_ast.specs.declared.tree.span.Span.{Span}
use Rattle.slicc_ast.specs.Prelude.{Operation', Not', Negate', Postfix', IsValid', IsInvalid', Cast', Group'}
use Rattle.ruby_value.specs.declared.kind.Kind.{Kind}
use Rattle.slicc_plan.specs.declared.broken.Broken.{Broken}
use Rattle.slicc_plan.specs.declared.broken.Rule.TheVariants.{NotThere}
use Rattle.slicc_plan.specs.declared.built_in.BuiltInType.TheVariants.{Int, MachineId, Request, Void}
use Rattle.slicc_plan.specs.BuiltIn.{NamedType, is_among, is_table_nature, nature_of, request_fields}
use Rattle.slicc_plan.specs.BuiltInCalls.{Answer, no_value, answered, line, Call, Receiver}
use Rattle.slicc_plan.specs.CallTypes.{Given, Typed, Written, answer_of, broken_in, built_in_named, call_named, call_unless, declared_call, found_index, found_method, index_call, is_told, method_call, named_call, plain, plain_call, structure_on}
use Rattle.slicc_plan.specs.Declarations.{Declaration, function, in_port, member, object, out_port, parameter, within, first_named, machine_declarations}
use Rattle.slicc_plan.specs.Environment.{Bound, BodySort, Environment, bound_as, declared_value, fixed, type_named, value_named, value_outside, value_within}
use Rattle.slicc_plan.specs.ExpressionTypes.{arguments_typed, cast_to, enumeration_members, field_declared, field_in, field_of, fields_scope, found_field, found_value, given_at, joined, member_among, member_of_type, member_type, operands_typed, span_of, suffix_typed, suffixes_typed, typed, variable_type}
use Rattle.slicc_plan.specs.Meanings.{Meaning, value, no_line, bare_line, new_line, incoming, outgoing, table, in_port as in_port_meaning, out_port as out_port_meaning, nothing, unknown, answer_of_type, fits, line_of_structure, message_type, object_of_type, one_of, told, value_of_type, is_value}
use Rattle.slicc_plan.specs.Types.{KnownType, built_in, enumerated, structured, is_built_in, type_in}
use Rattle.body_meaning.specs.declared.frame.Frame.{Frame}
use Rattle.body_meaning.specs.Prelude.{no_line as nothing_given, value as value_of, thing_in}
use Rattle.acts.specs.Prelude.{ends}
use Rattle.code_meaning.specs.Prelude.{Held}
use Rattle.body_code.specs.declared.left.NameAt.{NameAt}
use Rattle.body_code.specs.declared.left.Left.TheVariants as left
use Rattle.body_meaning.specs.declared.thing.Thing.TheVariants as thing
use Rattle.body_code.specs.Prelude.{giving, home_of, known, null, null_kind, piece}
use Rattle.code_laws.specs.Holding.{Holds, IsOwn, is_new, is_ood, is_untyped}
use Rattle.code_laws.specs.Setting.{Setting, env_of}
use Rattle.code_laws.specs.Whole.{HasOperand, HasSuffix, IsWhole}

ood_untyped : (meaning : Meaning) → is_ood meaning ≡ true → is_untyped meaning ≡ true
ood_untyped no_line is = refl
ood_untyped (new_line made) is = refl
ood_untyped _ is = absurd (cc is)

new_untyped : (meaning : Meaning) → is_new meaning ≡ true → is_untyped meaning ≡ true
new_untyped no_line is = refl
new_untyped (new_line made) is = refl
new_untyped _ is = absurd (cc is)

-- Types.

abbrev Typed_not : Meaning → Type 0
Typed_not meaning = is_untyped meaning ≡ false

either_not : (b : Bool) (x y : Meaning) → Typed_not x → Typed_not y → Typed_not (cond b x y)
either_not true x y first second = first
either_not false x y first second = second

value_not : (m : Machine) (t : Option KnownType) → Typed_not (value_of_type m t)
value_not m None = refl
value_not m (Some t) = either_not (is_value m t) (value t) unknown refl refl

object_not : (m : Machine) (t : Option KnownType) → Typed_not (object_of_type m t)
object_not m (Some (built_in b)) = either_not (is_table_nature (nature_of b)) (table b) (value_of_type m (Some (built_in b))) refl (value_not m (Some (built_in b)))
object_not m (Some (enumerated scope text members)) = value_not m (Some (enumerated scope text members))
object_not m (Some (structured scope s)) = value_not m (Some (structured scope s))
object_not m None = refl

answer_not : (m : Machine) (t : Option KnownType) → Typed_not (answer_of_type m t)
answer_not m t = either_not (is_built_in Void t) nothing (value_of_type m t) refl (value_not m t)

line_not : (m : Machine) (s : Option Structure) → Typed_not (line_of_structure m s)
line_not m None = refl
line_not m (Some s) = refl

call_not : (m : Machine) (on : Receiver) (a : Answer) → Typed_not (answer_of m on a)
call_not m on no_value = refl
call_not m on (answered b) = refl
call_not m on line = line_not m (structure_on m on)

module _ (z : Setting) (body : BodySort) (answer : Meaning) (bound : List Bound) (names : List NameAt) (frame : Frame) (h : Held) (holds : Holds z bound names frame h) where
  abbrev E : Environment
  E = env_of z body answer bound

  -- Names.

  declared_not : (d : Declaration) (b : Bound) → declared_value z.trees z.m d ≡ Some b → Typed_not b.meaning
  declared_not (parameter p) b e = let one : fixed p.name.text (object_of_type z.m (type_in z.trees (within z.m) p.kind.text)) ≡ b = cc e in subst (λ (c : Bound). Typed_not c.meaning) one (object_not z.m _)
  declared_not (object p) b e = let one : fixed p.name.text (object_of_type z.m (type_in z.trees (within z.m) p.kind.text)) ≡ b = cc e in subst (λ (c : Bound). Typed_not c.meaning) one (object_not z.m _)
  declared_not (in_port p) b e = let one : fixed p.name.text (in_port_meaning (message_type (type_in z.trees (within z.m) p.message.text))) ≡ b = cc e in subst (λ (c : Bound). Typed_not c.meaning) one refl
  declared_not (out_port p) b e = let one : fixed p.name.text (out_port_meaning (message_type (type_in z.trees (within z.m) p.message.text))) ≡ b = cc e in subst (λ (c : Bound). Typed_not c.meaning) one refl
  declared_not _ b e = absurd (cc e)

  everywhere_not : (x y : Bool) (b : Bound) → cond x (Some (fixed (codes "machineID") (value (built_in MachineId)))) (cond y (Some (fixed (codes "recycle_latency") (value (built_in Int)))) None) ≡ Some b → Typed_not b.meaning
  everywhere_not true y b e = let one : fixed (codes "machineID") (value (built_in MachineId)) ≡ b = cc e in subst (λ (c : Bound). Typed_not c.meaning) one refl
  everywhere_not false true b e = let one : fixed (codes "recycle_latency") (value (built_in Int)) ≡ b = cc e in subst (λ (c : Bound). Typed_not c.meaning) one refl
  everywhere_not false false b e = absurd (cc e)

  outside_not : (text : List ℕ) (o : Option Declaration) (b : Bound) → value_outside z.trees z.m text o ≡ Some b → Typed_not b.meaning
  outside_not text None b e = everywhere_not _ _ b e
  outside_not text (Some d) b e = declared_not d b e

  own_not : (text : List ℕ) (b : Bound) → bound_as text bound ≡ Some b → Typed_not b.meaning
  own_not text b e = by (home_of text names) (thing_in z.s frame text) (subst (λ o. IsOwn z h o (home_of text names) (thing_in z.s frame text)) e (holds.each text))
    where
      by : (at : Option _) (t : Option _) → IsOwn z h (Some b) at t → Typed_not b.meaning
      by (Some at) (Some t) own = own.declared
      by None None own = absurd own
      by None (Some t) own = absurd own
      by (Some at) None own = absurd own

  variable_not : (n : Name) → Typed_not (variable_type E n).meaning
  variable_not n = by (bound_as n.text bound) refl
    where
      outside : (o : Option Bound) → value_outside z.trees z.m n.text (first_named n.text (machine_declarations z.m)) ≡ o → Typed_not (found_value n o).meaning
      outside None e = refl
      outside (Some b) e = outside_not n.text _ b e

      by : (o : Option Bound) → bound_as n.text bound ≡ o → Typed_not (found_value n (value_within E n.text o)).meaning
      by None e = outside (value_outside z.trees z.m n.text (first_named n.text (machine_declarations z.m))) refl
      by (Some b) e = own_not n.text b e

  member_not : (owner called : Name) → Typed_not (member_type E owner called).meaning
  member_not owner called = by (type_named E owner.text)
    where
      among : (t : KnownType) (o : Option (List (List ℕ))) → Typed_not (member_among t owner called o).meaning
      among t None = refl
      among t (Some members) = there (is_among members called.text)
        where
          there : (v : Bool) → Typed_not (cond v (plain (value t) []) (plain unknown (told NotThere called.span ∷ []))).meaning
          there true = refl
          there false = refl

      by : (o : Option KnownType) → Typed_not (member_of_type E owner called o).meaning
      by None = refl
      by (Some t) = among t (enumeration_members z.trees t)

  cast_not : (target : TypeName) (g : Given) → Typed_not (cast_to E target g (type_named E target.text)).meaning
  cast_not target g = by (type_named E target.text)
    where
      by : (o : Option KnownType) → Typed_not (cast_to E target g o).meaning
      by None = refl
      by (Some t) = either_not (fits z.m (one_of (t ∷ [])) g.typed.meaning) (value_of_type z.m (Some t)) unknown (value_not z.m (Some t)) refl

  -- Fields.

  request_not : (o : Option NamedType) (meaning : Meaning) → option_map (λ (f : NamedType). value (built_in f.meaning)) o ≡ Some meaning → Typed_not meaning
  request_not None meaning e = absurd (cc e)
  request_not (Some f) meaning e = let one : value (built_in f.meaning) ≡ meaning = cc e in subst (λ x. Typed_not x) one refl

  member_field_not : (scope : _) (o : Option Declaration) (meaning : Meaning) → field_declared z.trees z.m scope o ≡ Some meaning → Typed_not meaning
  member_field_not scope (Some (member (FieldMember kind called attributes span))) meaning e =
      let one : value_of_type z.m (type_in z.trees scope kind.text) ≡ meaning = cc e in subst (λ x. Typed_not x) one (value_not z.m _)
  member_field_not scope _ meaning e = absurd (cc e)

  field_in_not : (t : KnownType) (text : List ℕ) (meaning : Meaning) → field_in z.trees z.m t text ≡ Some meaning → Typed_not meaning
  field_in_not (built_in Request) text meaning e = request_not (find (λ (f : NamedType). bytes_eq f.name text) request_fields) meaning e
  field_in_not (built_in b) text meaning e = absurd (cc e)
  field_in_not (enumerated scope name members) text meaning e = absurd (cc e)
  field_in_not (structured scope s) text meaning e = member_field_not (fields_scope z.m scope) (first_named text (map member s.members)) meaning e

  found_not : (written : Written) (broken : List Broken) (n : Name) (o : Option Meaning) → ((meaning : Meaning) → o ≡ Some meaning → Typed_not meaning) → Typed_not (found_field written broken n o).meaning
  found_not written broken n None each = refl
  found_not written broken n (Some meaning) each = each meaning refl

  field_not : (broken : List Broken) (n : Name) (meaning : Meaning) → Typed_not (field_of E broken n meaning).meaning
  field_not broken n (value t) = found_not _ broken n (field_in z.trees z.m t n.text) (λ x e. field_in_not t n.text x e)
  field_not broken n (incoming t) = found_not _ broken n (field_in z.trees z.m t n.text) (λ x e. field_in_not t n.text x e)
  field_not broken n (outgoing t) = found_not _ broken n (field_in z.trees z.m t n.text) (λ x e. field_in_not t n.text x e)
  field_not broken n no_line = refl
  field_not broken n bare_line = refl
  field_not broken n (new_line made) = refl
  field_not broken n (table b) = refl
  field_not broken n (in_port_meaning t) = refl
  field_not broken n (out_port_meaning t) = refl
  field_not broken n nothing = refl
  field_not broken n unknown = refl

  -- Calls.

  method_not : (place : Span) (on : Typed) (called : Name) (given : List Given) → Typed_not (method_call E place on called given).meaning
  method_not place on called given = told_or (is_told on.meaning)
    where
      found : (o : Option Call) → Typed_not (found_method E place on called o given).meaning
      found None = refl
      found (Some c) = call_not z.m c.receiver c.answer

      told_or : (v : Bool) → Typed_not (cond v (plain unknown (on.broken ++ broken_in given)) (found_method E place on called (call_named z.m on.meaning called.text) given)).meaning
      told_or true = refl
      told_or false = found (call_named z.m on.meaning called.text)

  index_not : (place : Span) (on : Typed) (key : Given) → Typed_not (index_call E place on key).meaning
  index_not place on key = told_or (is_told on.meaning)
    where
      found : (o : Option Call) → Typed_not (found_index E place on o (key ∷ [])).meaning
      found None = refl
      found (Some c) = call_not z.m c.receiver c.answer

      told_or : (v : Bool) → Typed_not (cond v (plain unknown (on.broken ++ key.typed.broken)) (found_index E place on (call_named z.m on.meaning (codes "[]")) (key ∷ []))).meaning
      told_or true = refl
      told_or false = found (call_named z.m on.meaning (codes "[]"))

  named_call_not : (place : Span) (called : Name) (given : List Given) → Typed_not (named_call E place called given).meaning
  named_call_not place called given = by (value_named E called.text)
    where
      plain_one : (o : Option Call) → Typed_not (built_in_named E place called o given).meaning
      plain_one None = refl
      plain_one (Some c) = call_not z.m c.receiver c.answer

      declared : (o : Option Declaration) → Typed_not (declared_call E place called o given).meaning
      declared None = plain_one (plain_call z.trees called.text)
      declared (Some (function (Plain kind name formals attributes (Some body) span))) = answer_not z.m (type_in z.trees (within z.m) kind.text)
      declared (Some (function (Plain kind name formals attributes None span))) = plain_one (plain_call z.trees called.text)
      declared (Some (function (Skipped s))) = refl
      declared (Some _) = refl

      by : (o : Option Bound) → Typed_not (call_unless E place called o given).meaning
      by (Some b) = refl
      by None = declared (first_named called.text (machine_declarations z.m))

  -- Rows.

  operands_not : {n : _} (place : Span) (left : Typed) (row : Row_of-Operand n) → Typed_not left.meaning → Typed_not (operands_typed E place left row).meaning
  operands_not place left end_of-Operand is = is
  operands_not place left (more_of-Operand operator e row) is = operands_not place (joined E operator (given_at place left) (given_at (span_of e) (typed E e))) row refl

  operation_not : {n : _} (place : Span) (left : Typed) (row : Row_of-Operand n) → HasOperand row → Typed_not (operands_typed E place left row).meaning
  operation_not place left end_of-Operand has = absurd has
  operation_not place left (more_of-Operand operator e row) has = operands_not place (joined E operator (given_at place left) (given_at (span_of e) (typed E e))) row refl

  suffix_not : (place : Span) (left : Typed) (x : Suffix) → Typed_not (suffix_typed E place left x).meaning
  suffix_not place left (Field n span) = field_not left.broken n left.meaning
  suffix_not place left (Method' called shape row arguments span) = method_not place left called (arguments_typed E row)
  suffix_not place left (Index key span) = index_not place left (given_at (span_of key) (typed E key))

  suffixes_not : {n : _} (place : Span) (left : Typed) (row : Row_of-Suffix n) → Typed_not left.meaning → Typed_not (suffixes_typed E place left row).meaning
  suffixes_not place left end_of-Suffix is = is
  suffixes_not place left (more_of-Suffix first row) is = suffixes_not place (suffix_typed E place left first) row (suffix_not place left first)

  postfix_not : {n : _} (place : Span) (left : Typed) (row : Row_of-Suffix n) → HasSuffix row → Typed_not (suffixes_typed E place left row).meaning
  postfix_not place left end_of-Suffix has = absurd has
  postfix_not place left (more_of-Suffix first row) has = suffixes_not place (suffix_typed E place left first) row (suffix_not place left first)

  -- Trees.

  -- what is typed as `OOD` gives a reference to nothing, and its code pushes one of the kind that is expected
  pub ood_is : (e : Expr) → IsWhole z e → is_ood (typed E e).meaning ≡ true → (value_of z.s z.functions frame e ≡ ends nothing_given) × ((expected : Option Kind) → piece z.s z.numbers names expected e ≡ giving (null_kind expected) (null (null_kind expected) ∷ []))
  ood_is (Operation' first n others span) whole is = absurd (cc (sym (ood_untyped (operands_typed E (span_of first) (typed E first) others).meaning is) ∙ operation_not (span_of first) (typed E first) others whole.1))
  ood_is (Not' operand span) whole is = absurd (cc is)
  ood_is (Negate' operand span) whole is = absurd (cc is)
  ood_is (Postfix' inner n suffixes span) whole is = absurd (cc (sym (ood_untyped (suffixes_typed E span (typed E inner) suffixes).meaning is) ∙ postfix_not span (typed E inner) suffixes whole.1))
  ood_is (Number n span) whole is = absurd (cc is)
  ood_is (True span) whole is = absurd (cc is)
  ood_is (False span) whole is = absurd (cc is)
  ood_is (Nothing span) whole is = (refl, λ expected. refl)
  ood_is (Variable n) whole is = absurd (cc (sym (ood_untyped (variable_type E n).meaning is) ∙ variable_not n))
  ood_is (Member owner called span) whole is = absurd (cc (sym (ood_untyped (member_type E owner called).meaning is) ∙ member_not owner called))
  ood_is (Call' called shape row arguments span) whole is = absurd (cc (sym (ood_untyped (named_call E span called (arguments_typed E row)).meaning is) ∙ named_call_not span called (arguments_typed E row)))
  ood_is (New made span) whole is = absurd (cc is)
  ood_is (IsValid' inner span) whole is = absurd (cc is)
  ood_is (IsInvalid' inner span) whole is = absurd (cc is)
  ood_is (Cast' target mode inner span) whole is = absurd (cc (sym (ood_untyped (cast_to E target (given_at (span_of inner) (typed E inner)) (type_named E target.text)).meaning is) ∙ cast_not target (given_at (span_of inner) (typed E inner))))
  ood_is (Group' inner span) whole is = ood_is inner whole is

  -- what is typed as `new` gives nothing, and has no code
  pub new_is : (e : Expr) → IsWhole z e → is_new (typed E e).meaning ≡ true → (value_of z.s z.functions frame e ≡ ends thing.Nothing) × ((expected : Option Kind) → piece z.s z.numbers names expected e ≡ known left.Nothing)
  new_is (Operation' first n others span) whole is = absurd (cc (sym (new_untyped (operands_typed E (span_of first) (typed E first) others).meaning is) ∙ operation_not (span_of first) (typed E first) others whole.1))
  new_is (Not' operand span) whole is = absurd (cc is)
  new_is (Negate' operand span) whole is = absurd (cc is)
  new_is (Postfix' inner n suffixes span) whole is = absurd (cc (sym (new_untyped (suffixes_typed E span (typed E inner) suffixes).meaning is) ∙ postfix_not span (typed E inner) suffixes whole.1))
  new_is (Number n span) whole is = absurd (cc is)
  new_is (True span) whole is = absurd (cc is)
  new_is (False span) whole is = absurd (cc is)
  new_is (Nothing span) whole is = absurd (cc is)
  new_is (Variable n) whole is = absurd (cc (sym (new_untyped (variable_type E n).meaning is) ∙ variable_not n))
  new_is (Member owner called span) whole is = absurd (cc (sym (new_untyped (member_type E owner called).meaning is) ∙ member_not owner called))
  new_is (Call' called shape row arguments span) whole is = absurd (cc (sym (new_untyped (named_call E span called (arguments_typed E row)).meaning is) ∙ named_call_not span called (arguments_typed E row)))
  new_is (New made span) whole is = (refl, λ expected. refl)
  new_is (IsValid' inner span) whole is = absurd (cc is)
  new_is (IsInvalid' inner span) whole is = absurd (cc is)
  new_is (Cast' target mode inner span) whole is = absurd (cc (sym (new_untyped (cast_to E target (given_at (span_of inner) (typed E inner)) (type_named E target.text)).meaning is) ∙ cast_not target (given_at (span_of inner) (typed E inner))))
  new_is (Group' inner span) whole is = new_is inner whole is
