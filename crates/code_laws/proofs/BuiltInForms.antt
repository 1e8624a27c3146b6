-- Built-in calls as operations, where each argument is a value.
use Rattle.std.proofs.Common.{◌≡◌, ◌∙◌, ◌++◌, ◌+◌, ◌-◌, ◌≤◌, ◌||◌, ℕ, Bool, true, false, cond, codes, Option, None, Some, List, [], ◌∷◌, length, nat_le, reverse, slice_get, refl, sym, ap, subst, option_and_then, arith}
use Rattle.std.specs.List.{list_all, list_any}
use Rattle.std.specs.Str.{bytes_eq}
use Rattle.std.proofs.lemmas.Bool.{and_parts, leb-true}
use Rattle.std.proofs.lemmas.Grind.{flat_map-append}
use Rattle.std.proofs.lemmas.List.{length-append}
use Rattle.slicc_ast.specs.declared.tree.expression.Expr.{Row_of-Expr}
use Rattle.slicc_ast.specs.declared.tree.span.Span.{Span}
use Rattle.ruby_value.specs.declared.kind.Kind.{Kind}
use Rattle.ruby_value.specs.declared.value.Value.{Value}
use Rattle.ruby_value.specs.Prelude.{is_reference}
use Rattle.ruby_symbols.specs.Prelude.{function_named}
use Rattle.slicc_plan.specs.BuiltInCalls.{Receiver, nothing, Answer, no_value, answered, line, Call, calls}
use Rattle.slicc_plan.specs.CallTypes.{Typed, answer_of, wanted_by, wanted_for}
use Rattle.slicc_plan.specs.Environment.{BodySort, Bound, Environment}
use Rattle.slicc_plan.specs.ExpressionTypes.{arguments_typed}
use Rattle.slicc_plan.specs.Meanings.{Meaning, Wanted}
use Rattle.slicc_plan.specs.TypeNumbers.{built_in_kind, kind_or_bool}
use Rattle.slicc_plan.proofs.NoReferences.{built_in_plain}
use Rattle.slicc_plan.proofs.There.{There}
use Rattle.rules_symbols.specs.CallArguments.{AreArguments}
use Rattle.rules_symbols.specs.CallRows.{call_number, given_by, given_without, is_other_work, operation_of, receiver_operand, served_on}
use Rattle.rules_symbols.specs.TypedMeaning.{IsTypedIn}
use Rattle.rules_symbols.proofs.Arguments.{arguments_are, written_known}
use Rattle.rules_symbols.proofs.CallTable.{call_row}
use Rattle.rules_symbols.proofs.StatementForms.{IsCalled, counted_is}
use Rattle.acts.specs.Prelude.{Acting, ends, ◌>>=◌}
use Rattle.action_code.specs.declared.operations.Answer.TheVariants as given
use Rattle.action_code.specs.declared.operations.Operation.{Operation}
use Rattle.action_code.specs.Prelude.{bare, machine_of, operands_of, operations, serves}
use Rattle.body_meaning.specs.declared.frame.Frame.{Frame}
use Rattle.body_meaning.specs.declared.thing.Thing.{Thing}
use Rattle.body_meaning.specs.declared.thing.Thing.TheVariants as thing
use Rattle.body_meaning.specs.Prelude.{free_call, function_or, named_call as call_done, plain_call, plain_or, thing_built, trigger_of, values}
use Rattle.code_meaning.specs.Prelude.{Held, are_of_kinds}
use Rattle.body_code.specs.declared.left.Left.TheVariants as left
use Rattle.body_code.specs.declared.left.NameAt.{NameAt}
use Rattle.body_code.specs.Prelude.{Piece, after, all_arguments, answer_left, formals_of, named_call as call_code, operated as operation_code, operation_left, plain_or as plain_code}
use Rattle.body_code.specs.Calls.{function_or as function_or_code}
use Rattle.code_laws.specs.Calling.{CallsDo}
use Rattle.code_laws.specs.Holding.{IsLeft}
use Rattle.code_laws.specs.Setting.{IsSet, Setting, env_of, tables}
use Rattle.code_laws.proofs.CallTables.{CallFound, is_simple, operation_count, plain_is, simple_parts, wanted_count, wants_new}
use Rattle.code_laws.proofs.FieldForms.{plain_code as plain_kind_code}
use Rattle.code_laws.proofs.Forms.{AllGood}
use Rattle.code_laws.proofs.FunctionForms.{arguments_then}
use Rattle.code_laws.proofs.Good.{IsDone, IsGood, held}
use Rattle.code_laws.proofs.MessageForms.{same_count}
use Rattle.code_laws.proofs.OperationCalls.{HasTable, operation_done}
use Rattle.code_laws.proofs.ValueRows.{AnyListed, values_listed}

-- an operation that is found, by its number
pub found_by : (o : Option ℕ) (x : Operation) → option_and_then (slice_get operations) o ≡ Some x → (n : ℕ) × (o ≡ Some n) × (slice_get operations n ≡ Some x)
found_by None x e = absurd (cc e)
found_by (Some n) x e = (n, refl, e)

module _ (z : Setting) (is : IsSet z) (calling : CallsDo z) (body : BodySort) (answer : Meaning) (bound : List Bound) (names : List NameAt) (frame : Frame) (h : Held)
    (typed_in : IsTypedIn z.s.number (env_of z body answer bound)) where
  abbrev E : Environment
  E = env_of z body answer bound

  -- A call whose arguments are values: its operation, and the code of its arguments.

  pub record IsReady {m : _} (c : Call) (row : Row_of-Expr m) (expected : List Kind) : Type 0 where
    pub more : ℕ
    pub number : ℕ
    pub numbered : call_number c.receiver c.name (length (arguments_typed E row)) ≡ Some number
    pub there : slice_get operations number ≡ Some (operation_of c more)
    pub count : length (operands_of (operation_of c more).arguments) ≡ length (receiver_operand c.receiver) + length (arguments_typed E row)
    pub listed : AnyListed z body answer bound names frame h expected row

  pub ready : {m : _} (place : Span) (on : Typed) (c : Call) (row : Row_of-Expr m) → There calls c → is_other_work c ≡ false → wants_new c ≡ false → IsCalled E place on c (arguments_typed E row)
      → AllGood z body answer bound names frame h row → (expected : List Kind) → IsReady c row expected
  ready place on c row there served old called good expected =
      let plain = plain_is c there served old in
      let parts = and_parts (list_all is_simple (c.always ++ c.perhaps)) (nat_le (length (receiver_operand c.receiver) + (length c.always + length c.perhaps)) 4) plain in
      let simple = simple_parts c.always c.perhaps parts.0 in
      let always : length (wanted_by z.m c.receiver c.always) ≡ length c.always = wanted_count z.m c.receiver c.always simple.0 in
      let perhaps : length (wanted_by z.m c.receiver c.perhaps) ≡ length c.perhaps = wanted_count z.m c.receiver c.perhaps simple.1 in
      let n : ℕ = length (arguments_typed E row) in
      let counted = counted_is place (length (wanted_by z.m c.receiver c.always)) (length (wanted_by z.m c.receiver c.perhaps)) (arguments_typed E row) called.counted in
      let least : length (wanted_by z.m c.receiver c.always) ≤ length (arguments_typed E row) = leb-true (length (wanted_by z.m c.receiver c.always)) (length (arguments_typed E row)) counted.0 in
      let most : length (arguments_typed E row) ≤ length (wanted_by z.m c.receiver c.always) + length (wanted_by z.m c.receiver c.perhaps) =
      leb-true (length (arguments_typed E row)) (length (wanted_by z.m c.receiver c.always) + length (wanted_by z.m c.receiver c.perhaps)) counted.1 in
      let more : ℕ = length (arguments_typed E row) - length c.always in
      let few : length (arguments_typed E row) - length c.always ≤ length c.perhaps = omega (arith, always, perhaps, least, most) in
      let all : length c.always + (length (arguments_typed E row) - length c.always) ≡ length (arguments_typed E row) = omega (arith, always, least) in
      let row_is : option_and_then (slice_get operations) (call_number c.receiver c.name (length (arguments_typed E row))) ≡ Some (operation_of c (length (arguments_typed E row) - length c.always)) =
      ap (λ k. option_and_then (slice_get operations) (call_number c.receiver c.name k)) (sym all) ∙ call_row c (length (arguments_typed E row) - length c.always) there served few in
      let found = found_by (call_number c.receiver c.name (length (arguments_typed E row))) (operation_of c (length (arguments_typed E row) - length c.always)) row_is in
      let wanted : List Wanted = wanted_by z.m c.receiver c.always ++ wanted_by z.m c.receiver c.perhaps in
      let together : length (wanted_by z.m c.receiver c.always ++ wanted_by z.m c.receiver c.perhaps) ≡ length (wanted_by z.m c.receiver c.always) + length (wanted_by z.m c.receiver c.perhaps) = length-append (wanted_by z.m c.receiver c.always) (wanted_by z.m c.receiver c.perhaps) in
      let are = arguments_are E (wanted_by z.m c.receiver c.always ++ wanted_by z.m c.receiver c.perhaps) (arguments_typed E row) (omega (arith, together, most)) (λ g place. written_known z.s.number E typed_in row g place) called.arguments in
      record {
        more = length (arguments_typed E row) - length c.always;
        number = found.0;
        numbered = found.1;
        there = found.2;
        count = operation_count c (length (arguments_typed E row) - length c.always) plain few ∙ ap (λ k. length (receiver_operand c.receiver) + k) all;
        listed = values_listed z body answer bound names frame h row c.receiver (c.always ++ c.perhaps) parts.0 (subst (λ ws. AreArguments E ws (arguments_typed E row)) (sym (flat_map-append (wanted_for z.m c.receiver) c.always c.perhaps)) are) good expected;
      }

  -- What it answers, where that is no line.

  abbrev pub IsPlainAnswer : Receiver → Call → Answer → Type 0
  IsPlainAnswer on c no_value = given_without on c.change ≡ given.Nothing
  IsPlainAnswer on c (answered b) = (k : Kind) × (built_in_kind b ≡ Some k)
  IsPlainAnswer on c line = ⊥

  pub plain_answer : (c : Call) (a : Answer) (on : ℕ) → IsPlainAnswer c.receiver c a → IsLeft z (answer_of z.m c.receiver a) (answer_left z.s.machine on (given_by c.receiver c.change a))
  plain_answer c no_value on none = ap (answer_left z.s.machine on) none
  plain_answer c (answered b) on (k, is_kind) =
      let plain : is_reference k ≡ false = ap (λ o. is_reference (kind_or_bool o)) (sym is_kind) ∙ built_in_plain b in
      record {
        kind = k;
        kind_is = is_kind;
        left_is = ap (λ o. left.Value (bare (kind_or_bool o))) is_kind ∙ ap left.Value (sym (plain_kind_code z.s.machine k plain));
      }
  plain_answer c line on wrong = absurd wrong

  pub no_table : (c : Call) (a : Answer) (on : ℕ) → IsPlainAnswer c.receiver c a → HasTable z is h on (given_by c.receiver c.change a)
  no_table c no_value on none = subst (λ g. HasTable z is h on g) (sym none) tt
  no_table c (answered b) on has = tt
  no_table c line on wrong = absurd wrong

  -- Calls without a receiver.

  other_name : (c : Call) (text : List ℕ) → is_other_work c ≡ false → c.name ≡ text → bytes_eq text (codes "trigger") ≡ false
  other_name c text served named = ap (λ x. bytes_eq x (codes "trigger")) (sym named) ∙ first (bytes_eq c.name (codes "trigger")) (list_any (bytes_eq c.name) (codes "set_cache_entry" ∷ codes "unset_cache_entry" ∷ codes "set_tbe" ∷ codes "unset_tbe" ∷ [])) served
    where
      first : (a b : Bool) → (a || b) ≡ false → a ≡ false
      first false b e = refl
      first true b e = absurd (cc e)

  free_is : (text : List ℕ) (n : ℕ) → function_named z.s.machine text ≡ None → bytes_eq text (codes "trigger") ≡ false → plain_call text ≡ Some n → (vs : List Value) → call_done z.s z.functions text vs ≡ thing_built z.s n 0 vs
  unfolding call_done free_call
  free_is text n no_function other number vs =
      ap (function_or z.s z.functions text vs) no_function
      ∙ ap (λ b. cond b (ends (thing.Trigger (trigger_of z.s vs))) (plain_or z.s text vs (plain_call text))) other ∙ ap (plain_or z.s text vs) number

  pub free_good : {m : _} (place : Span) (on : Typed) (text : List ℕ) (row : Row_of-Expr m) (c : Call) → CallFound nothing text c → is_other_work c ≡ false → wants_new c ≡ false → IsPlainAnswer c.receiver c c.answer
      → IsCalled E place on c (arguments_typed E row) → AllGood z body answer bound names frame h row → function_named z.s.machine text ≡ None
      → IsGood z h (answer_of z.m c.receiver c.answer) (after (all_arguments z.s z.numbers names (formals_of z.s text) row) (call_code z.s z.numbers text)) (values z.s z.functions frame [] row >>= call_done z.s z.functions text)
  free_good place on text row c found served old plain called good no_function =
      let r = ready place on c row found.there served old called good (formals_of z.s text) in
      let number : plain_call text ≡ Some r.number = ap (λ x. call_number x text (length (arguments_typed E row))) (sym found.receiver) ∙ ap (λ x. call_number c.receiver x (length (arguments_typed E row))) (sym found.name) ∙ r.numbered in
      let code : call_code z.s z.numbers text ≡ operation_code z.s r.number 0 = ap (function_or_code z.s z.numbers text) no_function ∙ ap (plain_code z.s z.numbers text) number in
      let L : Piece → Type 0 = λ p. IsLeft z (answer_of z.m c.receiver c.answer) p.left in
      record {
        left_is =
            subst L (sym code)
            (subst (λ o. IsLeft z (answer_of z.m c.receiver c.answer) (operation_left z.s 0 o)) (sym r.there) (plain_answer c c.answer 0 plain));
        done = arguments_then z is calling h (call_code z.s z.numbers text) (call_done z.s z.functions text) r.listed.2 (λ vs are. one r number code vs are);
      }
    where
      one : (r : IsReady c row (formals_of z.s text)) → plain_call text ≡ Some r.number → call_code z.s z.numbers text ≡ operation_code z.s r.number 0 → (vs : List Value) → are_of_kinds (tables z) r.listed.0 vs ≡ true
          → IsDone z h (λ stack. held z h (reverse vs ++ stack)) (call_code z.s z.numbers text) (call_done z.s z.functions text vs)
      one r number code vs are =
          let receiver : length (receiver_operand c.receiver) ≡ 0 = ap (λ x. length (receiver_operand x)) found.receiver in
          let count : length vs ≡ length (operands_of (operation_of c r.more).arguments) = omega (arith, same_count z r.listed.0 vs are, r.listed.1, r.count, receiver) in
          let on_it : serves (machine_of z.p z.c) 0 (served_on c.receiver) ≡ true = ap (λ x. serves (machine_of z.p z.c) 0 (served_on x)) found.receiver in
          let done = operation_done z is h r.number 0 (operation_of c r.more) r.there on_it (no_table c c.answer 0 plain) vs count in
          let P : Piece → Type 0 = λ p. IsDone z h (λ stack. held z h (reverse vs ++ stack)) p (call_done z.s z.functions text vs) in
          let T : Acting Thing → Type 0 = λ t. IsDone z h (λ stack. held z h (reverse vs ++ stack)) (operation_code z.s r.number 0) t in
          subst P (sym code) (subst T (sym (free_is text r.number no_function (other_name c text served found.name) number vs)) done)
