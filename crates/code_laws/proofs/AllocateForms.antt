-- `allocate` with `new` and a type: the line is made at the address, and `new` has no code.
use Rattle.std.proofs.Common.{◌≡◌, ◌∙◌, ◌++◌, ◌≤◌, ℕ, true, false, Option, None, Some, List, [], ◌∷◌, length, slice_get, refl, sym, ap, subst, arith}
use Rattle.slicc_ast.specs.declared.tree.expression.Expr.{Expr, Row_of-Expr, end_of-Expr, more_of-Expr}
use Rattle.ruby_value.specs.declared.kind.Kind.{Kind}
use Rattle.ruby_value.specs.declared.value.Value.{Value}
use Rattle.ruby_value.specs.declared.value.Value.TheVariants as plain_value
use Rattle.ruby_symbols.specs.declared.machine.TableSymbol.{TableSymbol}
use Rattle.slicc_plan.specs.declared.built_in.BuiltInType.TheVariants.{Address}
use Rattle.slicc_plan.specs.BuiltInCalls.{Receiver, line}
use Rattle.slicc_plan.specs.CallTypes.{answer_of}
use Rattle.slicc_plan.specs.Environment.{BodySort, Bound, Environment}
use Rattle.slicc_plan.specs.ExpressionTypes.{arguments_typed}
use Rattle.slicc_plan.specs.Meanings.{Meaning, new_line_of, of_built_in}
use Rattle.slicc_plan.specs.Types.{KnownType, built_in}
use Rattle.rules_symbols.specs.CallArguments.{AreArguments}
use Rattle.rules_symbols.specs.TypedMeaning.{IsTypedIn}
use Rattle.acts.specs.declared.body_fault.BodyFault.TheVariants as own
use Rattle.acts.specs.Prelude.{Acting, ends, ◌>>=◌, found}
use Rattle.built_in_acts.specs.Prelude.{built_in as built_in_act, calls}
use Rattle.action_code.specs.declared.operations.Answer.{Answer}
use Rattle.action_code.specs.declared.operations.Answer.TheVariants as given_answer
use Rattle.action_code.specs.declared.operations.Operation.{Operation}
use Rattle.action_code.specs.Prelude.{machine_of, operands_of, operations, serves}
use Rattle.body_meaning.specs.declared.frame.Frame.{Frame}
use Rattle.body_meaning.specs.declared.thing.Numbered.{Numbered}
use Rattle.body_meaning.specs.declared.thing.Thing.{Thing}
use Rattle.body_meaning.specs.declared.thing.Thing.TheVariants as thing
use Rattle.body_meaning.specs.Prelude.{method_call, numbered, on_table, table_call, thing_built, value as value_done, value_in, values, with_value}
use Rattle.code_meaning.specs.Prelude.{Held}
use Rattle.code_meaning.proofs.Gives.{Gives, any_gives, ends_gives}
use Rattle.body_code.specs.declared.left.Left.{Left}
use Rattle.body_code.specs.declared.left.Left.TheVariants as left
use Rattle.body_code.specs.declared.left.NameAt.{NameAt}
use Rattle.body_code.specs.Prelude.{Piece, Segment, after, all_arguments, answer_left, called_on as called_code, entry_kind, known, method_call as method_code, nothing, numbered_call, operated as operation_code, operation_left, piece, ◌⨾◌}
use Rattle.code_laws.specs.Calling.{CallsDo}
use Rattle.code_laws.specs.Holding.{Holds, IsLeft, is_new}
use Rattle.code_laws.specs.Same.{Same}
use Rattle.code_laws.specs.Setting.{IsSet, Setting, env_of}
use Rattle.code_laws.specs.Whole.{AreWhole}
use Rattle.code_laws.proofs.Forms.{AllGood}
use Rattle.code_laws.proofs.Good.{IsDone, IsValued, R, done_as, held}
use Rattle.code_laws.proofs.IndexForms.{value_then}
use Rattle.code_laws.proofs.NoLine.{new_is}
use Rattle.code_laws.proofs.OnTables.{Called}
use Rattle.code_laws.proofs.OperationCalls.{HasTable, operation_done}
use Rattle.code_laws.proofs.Receivers.{IsSorted, line_answer}
use Rattle.code_laws.proofs.Same.{at_once, each_same, handed_on, joined, regrouped, same_by, same_then, turned}
use Rattle.code_laws.proofs.Segments.{runs_as, runs_nothing, runs_then}
use Rattle.code_laws.proofs.ValueRows.{one_value}

module _ (z : Setting) (h : Held) where
  -- segments without code behind a value
  pub idle_behind : {from : List Value → Held} {k : Kind} {a : Segment} {t : Acting Thing} → IsValued z h from k a t → IsValued z h from k (a ⨾ (nothing ⨾ nothing)) t
  idle_behind {from} {k} {a} {t} first = record {
    stays = first.stays;
    does = λ stack.
        runs_as z.p z.c z.calls z.setup (handed_on z.setup t)
        (runs_then z.p z.c z.calls z.setup (first.does stack) (any_gives z.setup t)
        (λ x holds.
        runs_as z.p z.c z.calls z.setup (at_once z.setup x (λ y. ends y))
        (runs_then z.p z.c z.calls z.setup (runs_nothing z.p z.c z.calls z.setup (held z h (value_in x ∷ stack)) x (λ y. held z h (value_in y ∷ stack)) refl) (same_one x) (λ y is. subst (λ u. R z h nothing (held z h (value_in u ∷ stack)) (ends u) (λ w. held z h (value_in w ∷ stack))) (sym is) (runs_nothing z.p z.c z.calls z.setup (held z h (value_in x ∷ stack)) x (λ w. held z h (value_in w ∷ stack)) refl)))));
  }
    where
      same_one : (x : Thing) → Gives z.setup (λ y. y ≡ x) (ends x)
      same_one x = ends_gives z.setup refl

module _ (z : Setting) (is : IsSet z) (calling : CallsDo z) (body : BodySort) (answer : Meaning) (bound : List Bound) (names : List NameAt) (frame : Frame) (h : Held)
    (typed_in : IsTypedIn z.s.number (env_of z body answer bound)) (holds : Holds z bound names frame h) where
  abbrev E : Environment
  E = env_of z body answer bound

  abbrev V : Expr → Acting Thing
  V e = value_done z.s z.functions frame e

  -- what a call that allocates does with its arguments
  same_values : (e made : Expr) → V made ≡ ends thing.Nothing → (f : List Value → Acting Thing)
      → Same z.setup (V e >>= (λ x. f (value_in x ∷ plain_value.Bool false ∷ []))) (values z.s z.functions frame [] (more_of-Expr e (more_of-Expr made end_of-Expr)) >>= f)
  unfolding with_value
  same_values e made none f =
      let second : List Value → Acting (List Value) = λ vs. V made >>= (λ t. ends (vs ++ value_in t ∷ [])) >>= (λ ws. ends ws) in
      let last : (vs : List Value) → Same z.setup (f (vs ++ plain_value.Bool false ∷ [])) (V made >>= (λ t. ends (vs ++ value_in t ∷ [])) >>= (λ ws. ends ws) >>= f) =
      λ vs.
      turned z.setup
      (joined z.setup (same_then z.setup f (same_then z.setup (λ ws. ends ws) (joined z.setup (same_by z.setup (ap (λ q. q >>= (λ t. ends (vs ++ value_in t ∷ []))) none)) (at_once z.setup thing.Nothing (λ t. ends (vs ++ value_in t ∷ []))))))
      (joined z.setup (same_then z.setup f (at_once z.setup (vs ++ plain_value.Bool false ∷ []) (λ ws. ends ws))) (at_once z.setup (vs ++ plain_value.Bool false ∷ []) f))) in
      turned z.setup
      (joined z.setup (regrouped z.setup (V e >>= (λ x. ends (value_in x ∷ []))) (λ vs. V made >>= (λ t. ends (vs ++ value_in t ∷ [])) >>= (λ ws. ends ws)) f)
      (joined z.setup (regrouped z.setup (V e) (λ x. ends (value_in x ∷ [])) (λ vs. V made >>= (λ t. ends (vs ++ value_in t ∷ [])) >>= (λ ws. ends ws) >>= f))
      (each_same z.setup (V e)
      (λ x. joined z.setup (at_once z.setup (value_in x ∷ []) (λ vs. V made >>= (λ t. ends (vs ++ value_in t ∷ [])) >>= (λ ws. ends ws) >>= f)) (turned z.setup (last (value_in x ∷ [])))))))

  -- the operation of the number doesn't look at the second
  abbrev IsOfOne : ℕ → Type 0
  IsOfOne number = (on : ℕ) (x y : Value) → thing_built z.s number on (x ∷ y ∷ []) ≡ thing_built z.s number on (x ∷ [])

  pub cache_one : IsOfOne 9
  unfolding thing_built built_in_act calls
  cache_one on x y = refl

  pub directory_one : IsOfOne 15
  unfolding thing_built built_in_act calls
  directory_one on x y = refl

  module _ (n : ℕ) (t : TableSymbol) (on : Receiver) (text : List ℕ) (number : ℕ) (o : Operation) (sorted : IsSorted z is h n t on) (numbered_as : table_call t.sort text ≡ Some number) (there : slice_get operations number ≡ Some o)
      (served : serves (machine_of z.p z.c) n o.on ≡ true) (answers : o.answer ≡ given_answer.Line) (count : length (operands_of o.arguments) ≡ 1) (one : IsOfOne number) where
    called : on_table text n (slice_get z.s.machine.tables n) ≡ Some (record { number = number; on = n })
    called = ap (on_table text n) sorted.there ∙ ap (numbered n) numbered_as

    method_is : (v : Value) → method_call z.s (thing.Table n) text (v ∷ plain_value.Bool false ∷ []) ≡ thing_built z.s number n (v ∷ [])
    unfolding method_call found ◌>>=◌
    method_is v = ap (λ o. found own.Reference o >>= (λ (c : Numbered). thing_built z.s c.number c.on (v ∷ plain_value.Bool false ∷ []))) called ∙ one n v (plain_value.Bool false)

    has : HasTable z is h n o.answer
    has = subst (λ a. HasTable z is h n a) (sym answers) (t, sorted.there)

    with_new : (e made : Expr) → (k : Kind) × IsValued z h (held z h) k (piece z.s z.numbers names (Some (entry_kind z.s)) e).code (V e) → V made ≡ ends thing.Nothing → piece z.s z.numbers names None made ≡ known left.Nothing
        → IsDone z h (held z h) (method_code z.s (left.Table n) text 2 (all_arguments z.s z.numbers names (entry_kind z.s ∷ []) (more_of-Expr e (more_of-Expr made end_of-Expr)))) (values z.s z.functions frame [] (more_of-Expr e (more_of-Expr made end_of-Expr)) >>= method_call z.s (thing.Table n) text)
    with_new e made (k, first) none no_code =
        let code : Segment = (piece z.s z.numbers names (Some (entry_kind z.s)) e).code in
        let P : Piece → Type 0 = λ q.
        IsDone z h (held z h) (after ((piece z.s z.numbers names (Some (entry_kind z.s)) e).code ⨾ (q.code ⨾ nothing)) (numbered_call z.s (called_code z.s (left.Table n) text 2)))
        (values z.s z.functions frame [] (more_of-Expr e (more_of-Expr made end_of-Expr)) >>= method_call z.s (thing.Table n) text) in
        let Q : Piece → Type 0 = λ q.
        IsDone z h (held z h) (after ((piece z.s z.numbers names (Some (entry_kind z.s)) e).code ⨾ (nothing ⨾ nothing)) q) (values z.s z.functions frame [] (more_of-Expr e (more_of-Expr made end_of-Expr)) >>= method_call z.s (thing.Table n) text) in
        subst P (sym no_code)
        (subst Q (sym (ap (numbered_call z.s) called))
        (done_as z h (same_values e made none (method_call z.s (thing.Table n) text))
        (value_then z h (operation_code z.s number n) (λ v. method_call z.s (thing.Table n) text (v ∷ plain_value.Bool false ∷ [])) (idle_behind z h first)
        (λ v fit.
        let W : Acting Thing → Type 0 = λ q. IsDone z h (λ stack. held z h (v ∷ stack)) (operation_code z.s number n) q in
        subst W (sym (method_is v)) (operation_done z is h number n o there served has (v ∷ []) (sym count))))))

    left_typed : IsLeft z (answer_of z.m on line) (numbered_call z.s (called_code z.s (left.Table n) text 2)).left
    left_typed =
        let P : Piece → Type 0 = λ q. IsLeft z (answer_of z.m on line) q.left in
        let O : Option Operation → Type 0 = λ x. IsLeft z (answer_of z.m on line) (operation_left z.s n x) in
        let A : Answer → Type 0 = λ a. IsLeft z (answer_of z.m on line) (answer_left z.s.machine n a) in
        subst P (sym (ap (numbered_call z.s) called)) (subst O (sym there) (subst A (sym answers) (line_answer z is h n t on sorted)))

    -- a row of an address and `new`
    pub allocate_called : {m : _} (l : Left) (row : Row_of-Expr m) → l ≡ left.Table n → 2 ≤ length (arguments_typed E row) → (line_type : Option KnownType)
        → AreArguments E (of_built_in Address ∷ new_line_of line_type ∷ []) (arguments_typed E row) → AreWhole z row → AllGood z body answer bound names frame h row
        → Called z is calling body answer bound names frame h typed_in l (answer_of z.m on line) text row
    allocate_called l end_of-Expr left_is two line_type are whole good = absurd (omega (arith, two))
    allocate_called l (more_of-Expr e end_of-Expr) left_is two line_type are whole good = absurd (omega (arith, two))
    allocate_called l (more_of-Expr e (more_of-Expr made (more_of-Expr third row))) left_is two line_type are whole good = absurd are.1.1
    allocate_called l (more_of-Expr e (more_of-Expr made end_of-Expr)) left_is two line_type are whole good =
        let T : Left → Type 0 = λ y. Called z is calling body answer bound names frame h typed_in y (answer_of z.m on line) text (more_of-Expr e (more_of-Expr made end_of-Expr)) in
        let new = new_is z body answer bound names frame h holds made whole.1.0 (ap is_new are.1.0.made) in
        subst T (sym left_is) (
          left_typed,
          λ u of.
              let U : Thing → Type 0 = λ y.
              IsDone z h (held z h) (method_code z.s (left.Table n) text 2 (all_arguments z.s z.numbers names (entry_kind z.s ∷ []) (more_of-Expr e (more_of-Expr made end_of-Expr)))) (values z.s z.functions frame [] (more_of-Expr e (more_of-Expr made end_of-Expr)) >>= method_call z.s y text) in
              subst U (sym of) (with_new e made (one_value z body answer bound names frame h (built_in Address) e good.0 are.0 (Some (entry_kind z.s))) new.0 (new.1 None)),
        )
