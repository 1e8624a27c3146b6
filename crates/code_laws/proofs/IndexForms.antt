-- An index of a table, by an address.
use Rattle.std.proofs.Common.{◌≡◌, ◌∙◌, ℕ, true, false, codes, Option, None, Some, List, [], ◌∷◌, length, slice_get, sym, ap, subst, option_and_then, arith}
use Rattle.std.specs.Option.{option_map}
use Rattle.slicc_ast.specs.declared.tree.expression.Expr.{Expr}
use Rattle.slicc_ast.specs.declared.tree.span.Span.{Span}
use Rattle.ruby_value.specs.declared.kind.Kind.{Kind}
use Rattle.ruby_value.specs.declared.value.Value.{Value}
use Rattle.ruby_symbols.specs.declared.machine.TableSymbol.{TableSymbol}
use Rattle.slicc_plan.specs.declared.built_in.BuiltInType.TheVariants.{Address}
use Rattle.slicc_plan.specs.BuiltInCalls.{Receiver, line, by_address, calls, reading}
use Rattle.slicc_plan.specs.CallTypes.{Given, Typed, answer_of}
use Rattle.slicc_plan.specs.Environment.{BodySort, Bound, Environment}
use Rattle.slicc_plan.specs.ExpressionTypes.{given_at, span_of, typed}
use Rattle.slicc_plan.specs.Meanings.{Meaning, of_built_in}
use Rattle.slicc_plan.specs.Types.{built_in}
use Rattle.slicc_plan.proofs.There.{There}
use Rattle.rules_symbols.specs.CallRows.{is_other_work, operation_of}
use Rattle.rules_symbols.specs.TypedMeaning.{IsTyped, IsTypedIn}
use Rattle.rules_symbols.proofs.CallTable.{call_row}
use Rattle.rules_symbols.proofs.StatementForms.{IsCalled}
use Rattle.rules_symbols.proofs.TypedExpressions.{typed_is}
use Rattle.acts.specs.declared.body_fault.BodyFault.TheVariants as own
use Rattle.acts.specs.Prelude.{Acting, ◌>>=◌, found}
use Rattle.action_code.specs.declared.operations.Operation.{Operation}
use Rattle.action_code.specs.Prelude.{operands_of, operations}
use Rattle.body_meaning.specs.declared.frame.Frame.{Frame}
use Rattle.body_meaning.specs.declared.thing.Numbered.{Numbered}
use Rattle.body_meaning.specs.declared.thing.Thing.{Thing}
use Rattle.body_meaning.specs.declared.thing.Thing.TheVariants as thing
use Rattle.body_meaning.specs.Prelude.{index, index_call, thing_built, value as value_done, value_in}
use Rattle.code_meaning.specs.Prelude.{Held, is_of_kind}
use Rattle.code_meaning.proofs.Gives.{then_gives}
use Rattle.body_code.specs.declared.left.Left.{Left}
use Rattle.body_code.specs.declared.left.Left.TheVariants as left
use Rattle.body_code.specs.declared.left.NameAt.{NameAt}
use Rattle.body_code.specs.Prelude.{Piece, Segment, after, index as index_code, numbered_call, operated as operation_code, operation_left, piece}
use Rattle.code_laws.specs.Holding.{IsLeft, IsValueOf, OfLeft, left_on}
use Rattle.code_laws.specs.Setting.{IsSet, Setting, env_of, tables}
use Rattle.code_laws.proofs.Forms.{Good}
use Rattle.code_laws.proofs.Good.{IsDone, IsValued, held}
use Rattle.code_laws.proofs.OperationCalls.{operation_done}
use Rattle.code_laws.proofs.Receivers.{IsSorted, line_answer}
use Rattle.code_laws.proofs.Segments.{runs_then}
use Rattle.code_laws.proofs.ValueRows.{one_value}
use Rattle.rules_symbols.proofs.Arguments.{arguments_are}
use Rattle.rules_symbols.proofs.Made.{only_there}

module _ (z : Setting) (h : Held) where
  abbrev H : List Value → Held
  H stack = held z h stack

  -- a value, and what is done with it
  pub value_then : {from : List Value → Held} {k : Kind} {a : Segment} {t : Acting Thing} (p : Piece) (f : Value → Acting Thing) → IsValued z h from k a t
      → ((v : Value) → is_of_kind (tables z) k v ≡ true → IsDone z h (λ stack. H (v ∷ stack)) p (f v)) → IsDone z h from (after a p) (t >>= (λ x. f (value_in x)))
  value_then {k = k} p f first each = record {
    stays = then_gives z.setup first.stays (λ x of. let e = each (value_in x) (typed x of) in e.stays);
    does = λ stack. runs_then z.p z.c z.calls z.setup (first.does stack) first.stays (λ x of. let e = each (value_in x) (typed x of) in e.does stack);
  }
    where
      typed : (x : Thing) → IsValueOf z k x → is_of_kind (tables z) k (value_in x) ≡ true
      typed x of = ap (λ (y : Thing). is_of_kind (tables z) k (value_in y)) of.is ∙ of.of_kind

module _ (z : Setting) (is : IsSet z) (body : BodySort) (answer : Meaning) (bound : List Bound) (names : List NameAt) (frame : Frame) (h : Held)
    (typed_in : IsTypedIn z.s.number (env_of z body answer bound)) where
  abbrev E : Environment
  E = env_of z body answer bound

  abbrev pub Indexed : Left → Meaning → Expr → Type 0
  Indexed l meaning key =
      IsLeft z meaning (after (piece z.s z.numbers names None key).code (index_code z.s l)).left
      × ((t : Thing) → OfLeft z h l t
      → IsDone z h (λ stack. left_on l (held z h stack) t) (after (piece z.s z.numbers names None key).code (index_code z.s l)) (value_done z.s z.functions frame key >>= (λ k. index z.s t (value_in k))))

  index_is : (n : ℕ) (t : TableSymbol) → slice_get z.s.machine.tables n ≡ Some t → (v : Value) → index z.s (thing.Table n) v ≡ thing_built z.s (index_call t.sort) n (v ∷ [])
  unfolding index found ◌>>=◌
  index_is n t there v = ap (λ o. found own.Reference (option_map (λ (t : TableSymbol). record { number = index_call t.sort; on = n }) o) >>= (λ (c : Numbered). thing_built z.s c.number c.on (v ∷ []))) there

  code_is : (n : ℕ) (t : TableSymbol) → slice_get z.s.machine.tables n ≡ Some t → index_code z.s (left.Table n) ≡ operation_code z.s (index_call t.sort) n
  code_is n t there = ap (λ o. numbered_call z.s (option_map (λ (t : TableSymbol). record { number = index_call t.sort; on = n }) o)) there

  -- by the operation of the index
  index_by : (n : ℕ) (t : TableSymbol) (on : Receiver) (l : Left) (key : Expr) → l ≡ left.Table n → IsSorted z is h n t on → slice_get operations (index_call t.sort) ≡ Some (operation_of (reading on (codes "[]") by_address line) 0)
      → length (operands_of (operation_of (reading on (codes "[]") by_address line) 0).arguments) ≡ 1 → (k : Kind) × IsValued z h (held z h) k (piece z.s z.numbers names None key).code (value_done z.s z.functions frame key) → Indexed l (answer_of z.m on line) key
  index_by n t on l key left_is sorted there count (k, first) =
      let p : Piece = operation_code z.s (index_call t.sort) n in
      let T : Left → Type 0 = λ y. Indexed y (answer_of z.m on line) key in
      let P : Piece → Type 0 = λ q.
      IsLeft z (answer_of z.m on line) q.left
      × ((u : Thing) → u ≡ thing.Table n → IsDone z h (held z h) (after (piece z.s z.numbers names None key).code q) (value_done z.s z.functions frame key >>= (λ k. index z.s u (value_in k)))) in
      let O : Option Operation → Type 0 = λ o. IsLeft z (answer_of z.m on line) (operation_left z.s n o) in
      subst T (sym left_is)
      (subst P (sym (code_is n t sorted.there)) (
        subst O (sym there) (line_answer z is h n t on sorted),
        λ u of.
            let U : Thing → Type 0 = λ y. IsDone z h (held z h) (after (piece z.s z.numbers names None key).code (operation_code z.s (index_call t.sort) n)) (value_done z.s z.functions frame key >>= (λ k. index z.s y (value_in k))) in
            subst U (sym of)
            (value_then z h (operation_code z.s (index_call t.sort) n) (λ v. index z.s (thing.Table n) v) first
            (λ v fit.
            let W : Acting Thing → Type 0 = λ q. IsDone z h (λ stack. held z h (v ∷ stack)) (operation_code z.s (index_call t.sort) n) q in
            subst W (sym (index_is n t sorted.there v)) (operation_done z is h (index_call t.sort) n (operation_of (reading on (codes "[]") by_address line) 0) there sorted.served (t, sorted.there) (v ∷ []) (sym count)))),
      ))

  -- the operation is there
  there_by : (t : TableSymbol) (n : ℕ) (on : Receiver) → IsSorted z is h n t on → There calls (reading on (codes "[]") by_address line) → is_other_work (reading on (codes "[]") by_address line) ≡ false
      → slice_get operations (index_call t.sort) ≡ Some (operation_of (reading on (codes "[]") by_address line) 0)
  there_by t n on sorted there served =
      sym (ap (option_and_then (slice_get operations)) (sorted.bracket 1)) ∙ call_row (reading on (codes "[]") by_address line) 0 there served (omega arith)

  key_valued : (place : Span) (on : Typed) (receiver : Receiver) (key : Expr) → Good z body answer bound names frame h key → IsCalled E place on (reading receiver (codes "[]") by_address line) (given_at (span_of key) (typed E key) ∷ [])
      → (k : Kind) × IsValued z h (held z h) k (piece z.s z.numbers names None key).code (value_done z.s z.functions frame key)
  key_valued place on receiver key good called =
      let are = arguments_are E (of_built_in Address ∷ []) (given_at (span_of key) (typed E key) ∷ []) (omega arith) (λ g there none. known g there none) called.arguments in
      one_value z body answer bound names frame h (built_in Address) key good are.0 None
    where
      known : (g : Given) → There (given_at (span_of key) (typed E key) ∷ []) g → g.typed.broken ≡ [] → IsTyped z.trees z.m g.typed.meaning
      known g there none =
          let same : given_at (span_of key) (typed E key) ≡ g = only_there (given_at (span_of key) (typed E key)) g there in
          let T : Given → Type 0 = λ x. x.typed.broken ≡ [] → IsTyped z.trees z.m x.typed.meaning in
          subst T same (λ clear. typed_is z.s.number E typed_in key clear) none

  pub index_called : (place : Span) (on : Typed) (n : ℕ) (t : TableSymbol) (receiver : Receiver) (l : Left) (key : Expr) → l ≡ left.Table n → IsSorted z is h n t receiver → There calls (reading receiver (codes "[]") by_address line)
      → is_other_work (reading receiver (codes "[]") by_address line) ≡ false → length (operands_of (operation_of (reading receiver (codes "[]") by_address line) 0).arguments) ≡ 1 → Good z body answer bound names frame h key
      → IsCalled E place on (reading receiver (codes "[]") by_address line) (given_at (span_of key) (typed E key) ∷ []) → Indexed l (answer_of z.m receiver line) key
  index_called place on n t receiver l key left_is sorted there served count good called =
      index_by n t receiver l key left_is sorted (there_by t n receiver sorted there served) count (key_valued place on receiver key good called)
