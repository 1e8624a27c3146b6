-- Calls on ports, on tables and on sets of controllers, where each argument is a value.
use Rattle.std.proofs.Common.{◌≡◌, ◌∙◌, ℕ, true, false, codes, Some, List, [], ◌∷◌, length, slice_get, refl, sym, ap, subst}
use Rattle.std.specs.Str.{bytes_eq}
use Rattle.slicc_ast.specs.declared.tree.expression.Expr.{Row_of-Expr, items-the_row-Expr}
use Rattle.ruby_value.specs.declared.kind.Kind.TheVariants as kind
use Rattle.ruby_value.specs.declared.value.Value.{Value}
use Rattle.ruby_value.specs.declared.value.Value.TheVariants as plain_value
use Rattle.ruby_symbols.specs.declared.machine.TableSymbol.{TableSymbol}
use Rattle.slicc_plan.specs.BuiltInCalls.{Receiver, in_port, net_dest, Answer, no_value, answered, line, Call}
use Rattle.slicc_plan.specs.CallTypes.{answer_of}
use Rattle.slicc_plan.specs.Environment.{BodySort, Bound, Environment}
use Rattle.slicc_plan.specs.ExpressionTypes.{arguments_typed}
use Rattle.slicc_plan.specs.Meanings.{Meaning}
use Rattle.slicc_plan.specs.Types.{KnownType}
use Rattle.rules_symbols.specs.CallRows.{call_number, given_by, receiver_operand, served_on}
use Rattle.rules_symbols.specs.TypedMeaning.{IsTypedIn}
use Rattle.rules_symbols.proofs.TypedParts.{answer_valued}
use Rattle.rules_symbols.proofs.ValueKinds.{built_in_valued}
use Rattle.acts.specs.Prelude.{Acting, ◌>>=◌}
use Rattle.action_code.specs.Prelude.{machine_of, serves}
use Rattle.body_meaning.specs.declared.frame.Frame.{Frame}
use Rattle.body_meaning.specs.declared.thing.Thing.{Thing}
use Rattle.body_meaning.specs.declared.thing.Thing.TheVariants as thing
use Rattle.body_meaning.specs.Prelude.{method_call, numbered, on_table, port_call, set_call, table_call, values}
use Rattle.code_meaning.specs.Prelude.{Held, is_of_kind}
use Rattle.body_code.specs.declared.left.Left.{Left}
use Rattle.body_code.specs.declared.left.Left.TheVariants as left
use Rattle.body_code.specs.declared.left.NameAt.{NameAt}
use Rattle.body_code.specs.Prelude.{Piece, all_arguments, answer_left, entry_kind, method_call as method_code}
use Rattle.code_laws.specs.Calling.{CallsDo}
use Rattle.code_laws.specs.Holding.{IsInPortLeft, IsLeft, OfLeft, left_on}
use Rattle.code_laws.specs.Setting.{IsSet, Setting, env_of, tables}
use Rattle.code_laws.proofs.BuiltInForms.{IsReady, no_table, plain_answer}
use Rattle.code_laws.proofs.CallTables.{CallFound}
use Rattle.code_laws.proofs.Good.{IsDone, held}
use Rattle.code_laws.proofs.MethodForms.{IsOn, left_by, silent_done, value_receiver_done}
use Rattle.code_laws.proofs.OperationCalls.{HasTable}
use Rattle.code_laws.proofs.Receivers.{IsSorted, line_answer, plain_of, port_served}
use Rattle.code_laws.proofs.TableFacts.{IsAnswerable, answers_no_line, on_table as is_table_receiver, valued}

module _ (z : Setting) (is : IsSet z) (calling : CallsDo z) (body : BodySort) (answer : Meaning) (bound : List Bound) (names : List NameAt) (frame : Frame) (h : Held)
    (typed_in : IsTypedIn z.s.number (env_of z body answer bound)) where
  abbrev E : Environment
  E = env_of z body answer bound

  abbrev M : {m : _} → Left → List ℕ → Row_of-Expr m → Piece
  M l text row = method_code z.s l text (length (items-the_row-Expr _ row)) (all_arguments z.s z.numbers names (entry_kind z.s ∷ []) row)

  abbrev B : {m : _} → List ℕ → Row_of-Expr m → Thing → Acting Thing
  B text row t = values z.s z.functions frame [] row >>= method_call z.s t text

  -- behind what has left this
  abbrev pub Called : {m : _} → Left → Meaning → List ℕ → Row_of-Expr m → Type 0
  Called l meaning text row = IsLeft z meaning (M l text row).left × ((t : Thing) → OfLeft z h l t → IsDone z h (λ stack. left_on l (held z h stack) t) (M l text row) (B text row t))

  abbrev pub Ready : {m : _} → Call → Row_of-Expr m → Type 0
  Ready c row = IsReady z is calling body answer bound names frame h typed_in c row (entry_kind z.s ∷ [])

  -- Ports.

  pub port_called : {m : _} (t : KnownType) (l : Left) (text : List ℕ) (row : Row_of-Expr m) (c : Call) → CallFound in_port text c → IsAnswerable z is c c.answer → IsInPortLeft z t l → Ready c row → Called l (answer_of z.m c.receiver c.answer) text row
  port_called t l text row c found able port r =
      let n : ℕ = port.port.number in
      let off : is_table_receiver c.receiver ≡ false = ap is_table_receiver found.receiver in
      let plain = plain_of z is h c c.answer able (valued z is c found.there) (answers_no_line c found.there off) calling body answer bound names frame typed_in in
      let has = no_table z is calling body answer bound names frame h typed_in c c.answer n plain in
      let served : serves (machine_of z.p z.c) n (served_on c.receiver) ≡ true =
      ap (λ x. serves (machine_of z.p z.c) n (served_on x)) found.receiver ∙ port_served z is h n port.port.buffer port.port.there port.receives in
      let number : port_call text (length (arguments_typed E row)) ≡ Some r.number =
      ap (λ x. call_number x text (length (arguments_typed E row))) (sym found.receiver) ∙ ap (λ x. call_number c.receiver x (length (arguments_typed E row))) (sym found.name) ∙ r.numbered in
      let on : IsOn z is h (left.Port n) (thing.Port n) text (length (arguments_typed E row)) r.number n = record { in_code = ap (numbered n) number; in_body = ap (numbered n) number } in
      let operand : length (receiver_operand c.receiver) ≡ 0 = ap (λ x. length (receiver_operand x)) found.receiver in
      let typed = plain_answer z is calling body answer bound names frame h typed_in c c.answer n plain in
      let T : Left → Type 0 = λ y. Called y (answer_of z.m c.receiver c.answer) text row in
      subst T (sym port.port.left_is) (
        left_by z is calling body answer bound names frame h typed_in c row r n has served text (left.Port n) (answer_of z.m c.receiver c.answer) on.in_code typed,
        λ u of.
            let U : Thing → Type 0 = λ y. IsDone z h (held z h) (M (left.Port n) text row) (B text row y) in
            subst U (sym of) (silent_done z is calling body answer bound names frame h typed_in c row r n has served text (left.Port n) (thing.Port n) refl operand on),
      )

  -- Tables.

  table_has : (n : ℕ) (t : TableSymbol) (c : Call) (a : Answer) → slice_get z.s.machine.tables n ≡ Some t → IsAnswerable z is c a → HasTable z is h n (given_by c.receiver c.change a)
  table_has n t c no_value there able = subst (λ g. HasTable z is h n g) (sym able) tt
  table_has n t c (answered b) there able = tt
  table_has n t c line there able = (t, there)

  table_typed : (n : ℕ) (t : TableSymbol) (c : Call) (a : Answer) → IsSorted z is h n t c.receiver → IsAnswerable z is c a → answer_valued a ≡ true → IsLeft z (answer_of z.m c.receiver a) (answer_left z.s.machine n (given_by c.receiver c.change a))
  table_typed n t c no_value sorted able v = ap (answer_left z.s.machine n) able
  table_typed n t c (answered b) sorted able v = plain_answer z is calling body answer bound names frame h typed_in c (answered b) n (built_in_valued b v)
  table_typed n t c line sorted able v = line_answer z is h n t c.receiver sorted

  pub table_called : {m : _} (n : ℕ) (t : TableSymbol) (l : Left) (on : Receiver) (text : List ℕ) (row : Row_of-Expr m) (c : Call) → l ≡ left.Table n → bytes_eq text (codes "[]") ≡ false → CallFound on text c → IsAnswerable z is c c.answer
      → IsSorted z is h n t on → Ready c row → Called l (answer_of z.m c.receiver c.answer) text row
  table_called n t l on text row c left_is word found able sorted_on r =
      let S : Receiver → Type 0 = λ x. IsSorted z is h n t x in
      let sorted : IsSorted z is h n t c.receiver = subst S (sym found.receiver) sorted_on in
      let has = table_has n t c c.answer sorted.there able in
      let count : ℕ = length (arguments_typed E row) in
      let number : table_call t.sort text ≡ Some r.number = sym (sorted.numbers text (length (arguments_typed E row)) word) ∙ ap (λ x. call_number c.receiver x (length (arguments_typed E row))) (sym found.name) ∙ r.numbered in
      let called : on_table text n (slice_get z.s.machine.tables n) ≡ Some (record { number = r.number; on = n }) = ap (on_table text n) sorted.there ∙ ap (numbered n) number in
      let is_on : IsOn z is h (left.Table n) (thing.Table n) text (length (arguments_typed E row)) r.number n = record { in_code = called; in_body = called } in
      let typed = table_typed n t c c.answer sorted able (valued z is c found.there) in
      let T : Left → Type 0 = λ y. Called y (answer_of z.m c.receiver c.answer) text row in
      subst T (sym left_is) (
        left_by z is calling body answer bound names frame h typed_in c row r n has sorted.served text (left.Table n) (answer_of z.m c.receiver c.answer) is_on.in_code typed,
        λ u of.
            let U : Thing → Type 0 = λ y. IsDone z h (held z h) (M (left.Table n) text row) (B text row y) in
            subst U (sym of) (silent_done z is calling body answer bound names frame h typed_in c row r n has sorted.served text (left.Table n) (thing.Table n) refl sorted.no_operand is_on),
      )

  -- Sets of controllers.

  set_is : (v : Value) → is_of_kind (tables z) kind.Dest v ≡ true → (members : List ℕ) × (v ≡ plain_value.Dest members)
  set_is (plain_value.Dest members) of = (members, refl)
  set_is v of = absurd (cc of)

  pub set_called : {m : _} (l : Left) (text : List ℕ) (row : Row_of-Expr m) (c : Call) → l ≡ left.Value kind.Dest → CallFound net_dest text c → IsAnswerable z is c c.answer → Ready c row → Called l (answer_of z.m c.receiver c.answer) text row
  set_called l text row c left_is found able r =
      let off : is_table_receiver c.receiver ≡ false = ap is_table_receiver found.receiver in
      let plain = plain_of z is h c c.answer able (valued z is c found.there) (answers_no_line c found.there off) calling body answer bound names frame typed_in in
      let has = no_table z is calling body answer bound names frame h typed_in c c.answer 0 plain in
      let served : serves (machine_of z.p z.c) 0 (served_on c.receiver) ≡ true = ap (λ x. serves (machine_of z.p z.c) 0 (served_on x)) found.receiver in
      let number : set_call text ≡ Some r.number =
      ap (λ x. call_number x text (length (arguments_typed E row))) (sym found.receiver) ∙ ap (λ x. call_number c.receiver x (length (arguments_typed E row))) (sym found.name) ∙ r.numbered in
      let operand : length (receiver_operand c.receiver) ≡ 1 = ap (λ x. length (receiver_operand x)) found.receiver in
      let typed = plain_answer z is calling body answer bound names frame h typed_in c c.answer 0 plain in
      let T : Left → Type 0 = λ y. Called y (answer_of z.m c.receiver c.answer) text row in
      subst T (sym left_is) (
        left_by z is calling body answer bound names frame h typed_in c row r 0 has served text (left.Value kind.Dest) (answer_of z.m c.receiver c.answer) (ap (numbered 0) number) typed,
        λ u of.
            let members = set_is of.value of.of_kind in
            let same : u ≡ thing.Value (plain_value.Dest members.0) = of.is ∙ ap thing.Value members.1 in
            let U : Thing → Type 0 = λ y. IsDone z h (λ stack. left_on (left.Value kind.Dest) (held z h stack) y) (M (left.Value kind.Dest) text row) (B text row y) in
            let on : IsOn z is h (left.Value kind.Dest) (thing.Value (plain_value.Dest members.0)) text (length (arguments_typed E row)) r.number 0 = record { in_code = ap (numbered 0) number; in_body = ap (numbered 0) number } in
            subst U (sym same) (value_receiver_done z is calling body answer bound names frame h typed_in c row r 0 has served text kind.Dest (plain_value.Dest members.0) operand on),
      )
