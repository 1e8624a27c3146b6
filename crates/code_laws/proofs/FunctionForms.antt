-- Calls of the machine's functions.
use Rattle.std.proofs.Common.{◌≡◌, ◌⊎◌, ◌∙◌, ◌++◌, ℕ, Bool, true, false, cond, Option, None, Some, List, [], ◌∷◌, drop, length, map, reverse, slice_get, ◌+◌, ◌≤◌, refl, sym, ap, subst, inl, inr, arith}
use Rattle.std.specs.Option.{option_map}
use Rattle.std.proofs.lemmas.List.{length-map}
use Rattle.std.proofs.lemmas.Bool.{leb-true}
use Rattle.slicc_ast.specs.declared.tree.declaration.Function.TheVariants.{Plain}
use Rattle.slicc_ast.specs.declared.tree.declaration.Formal.{Formal}
use Rattle.slicc_ast.specs.declared.tree.expression.Expr.{Row_of-Expr}
use Rattle.slicc_ast.specs.declared.tree.name.TypeName.{TypeName}
use Rattle.slicc_ast.specs.declared.tree.span.Span.{Span}
use Rattle.ruby_value.specs.declared.kind.Kind.{Kind}
use Rattle.ruby_value.specs.declared.value.Value.{Value}
use Rattle.ruby_symbols.specs.declared.machine.FormalSymbol.{FormalSymbol}
use Rattle.ruby_symbols.specs.declared.machine.FunctionSymbol.{FunctionSymbol}
use Rattle.ruby_symbols.specs.declared.machine.MachineSymbols.{MachineSymbols}
use Rattle.ruby_symbols.specs.Prelude.{function_named}
use Rattle.slicc_plan.specs.declared.built_in.BuiltInType.TheVariants.{Void}
use Rattle.slicc_plan.specs.CallTypes.{Given, formal_wanted}
use Rattle.slicc_plan.specs.Declarations.{function, is_named, within, machine_declarations}
use Rattle.slicc_plan.specs.Environment.{BodySort, Bound, Environment}
use Rattle.slicc_plan.specs.ExpressionTypes.{arguments_typed}
use Rattle.slicc_plan.specs.Meanings.{Meaning, value, nothing, unknown, answer_of_type, is_value, value_of_type}
use Rattle.slicc_plan.specs.Prelude.{formal_symbol, machine_symbols}
use Rattle.slicc_plan.specs.SymbolsOfMachines.{kind_in as kind_typed}
use Rattle.slicc_plan.specs.TypeNumbers.{value_kind}
use Rattle.slicc_plan.specs.Types.{KnownType, built_in, is_built_in, type_in}
use Rattle.slicc_plan.proofs.There.{There, there_found}
use Rattle.rules_symbols.specs.TypedMeaning.{IsTypedIn}
use Rattle.rules_symbols.proofs.Arguments.{arguments_are, written_known}
use Rattle.rules_symbols.proofs.ExpressionForms.{IsFunctionCalled}
use Rattle.rules_symbols.proofs.FunctionKinds.{answer_is, formal_is, function_stands}
use Rattle.rules_symbols.proofs.StatementForms.{counted_is}
use Rattle.rules_symbols.proofs.Standing.{is_type}
use Rattle.rules_symbols.proofs.ValueKinds.{kind_there}
use Rattle.code_laws.proofs.MessageForms.{same_count}
use Rattle.acts.specs.Prelude.{Acting, ends, ◌>>=◌}
use Rattle.action_code.specs.declared.instr.Instr.TheVariants as instr
use Rattle.body_meaning.specs.declared.frame.Frame.{Frame}
use Rattle.body_meaning.specs.declared.thing.Thing.{Thing}
use Rattle.body_meaning.specs.Prelude.{function_or, named_call as call_done, value_in, values}
use Rattle.code_meaning.specs.declared.code_end.CodeEnd.{CodeEnd}
use Rattle.code_meaning.specs.Prelude.{Held, On, Step, argument_count, are_of_kinds, called}
use Rattle.code_meaning.proofs.Gives.{then_gives, weaker_gives}
use Rattle.body_code.specs.declared.left.Left.{Left}
use Rattle.body_code.specs.declared.left.NameAt.{NameAt}
use Rattle.body_code.specs.Prelude.{Piece, Segment, after, all_arguments, formals_in, formals_of, function_body_number, just, kind_in, left_of, named_call as call_code, result_of}
use Rattle.body_code.specs.Calls.{function_or as function_or_code}
use Rattle.code_laws.specs.Calling.{AnswersAs, CallsDo, DoesFunction, end_by}
use Rattle.code_laws.specs.Holding.{Holds, IsLeft, OfLeft, left_on}
use Rattle.code_laws.specs.Setting.{IsSet, Setting, env_of, tables}
use Rattle.code_laws.specs.Whole.{AreWhole, MayCall}
use Rattle.code_laws.proofs.ArgumentRows.{AreMore, IsFormal, IsListed, formals_listed}
use Rattle.code_laws.proofs.Forms.{AllGood}
use Rattle.code_laws.proofs.Good.{IsDone, IsGood, R, held}
use Rattle.code_laws.proofs.OperationCalls.{passed, taken}
use Rattle.code_laws.proofs.Same.{at_once, each_same, joined, regrouped, same_by, same_then}
use Rattle.code_laws.proofs.Segments.{runs_on, runs_then}

map_twice : {A B C : Type 0} (f : A → B) (g : B → C) (xs : List A) → map g (map f xs) ≡ map (λ x. g (f x)) xs
map_twice f g [] = refl
map_twice f g (x ∷ xs) = ap (λ ys. g (f x) ∷ ys) (map_twice f g xs)

module _ (z : Setting) (is : IsSet z) (calling : CallsDo z) (h : Held) where
  abbrev H : List Value → Held
  H stack = held z h stack

  -- arguments, and a call on them
  pub arguments_then : {ks : List Kind} {code : Segment} {q : List Value → Acting (List Value)} (p : Piece) (f : List Value → Acting Thing) → IsListed z h ks code q
      → ((vs : List Value) → are_of_kinds (tables z) ks vs ≡ true → IsDone z h (λ stack. H (reverse vs ++ stack)) p (f vs)) → IsDone z h H (after code p) (q [] >>= f)
  arguments_then {ks} p f listed each =
      let same : (vs : List Value) → AreMore z h ks [] vs → are_of_kinds (tables z) ks vs ≡ true = λ vs more. ap (are_of_kinds (tables z) ks) more.1 ∙ more.2 in
      record {
        stays = then_gives z.setup (listed.stays []) (λ vs more. let e = each vs (same vs more) in e.stays);
        does = λ stack. runs_then z.p z.c z.calls z.setup (listed.does [] stack) (listed.stays []) (λ vs more. let e = each vs (same vs more) in e.does stack);
      }

  -- One call.

  answer_left : (r : Option Kind) (t : Thing) → AnswersAs z r t → OfLeft z h (left_of r) t
  answer_left None t of = of
  answer_left (Some k) t of = of

  ended : (r : Option Kind) (n : ℕ) (S stack : List Value) (t : Thing) → drop n S ≡ stack → called n (end_by r t) (H S) ≡ On (left_on (left_of r) (H stack) t)
  ended None n S stack t e = ap (λ s. On (H s)) e
  ended (Some k) n S stack t e = ap (λ s. On (H (value_in t ∷ s))) e

  module _ (k : ℕ) (f : FunctionSymbol) (d : DoesFunction z k f) (arguments : List Value) (fit : are_of_kinds (tables z) (formals_in z.s (Some f)) arguments ≡ true) (count : length arguments ≡ length f.formals) where
    abbrev b : ℕ
    b = function_body_number z.numbers k

    abbrev result : Option Kind
    result = result_of z.s (Some f)

    count_is : length arguments ≡ argument_count (slice_get z.p.bodies b)
    count_is = count ∙ sym d.count

    call_runs : (stack : List Value) → R z h (just (instr.Call b ∷ [])) (H (reverse arguments ++ stack)) (z.functions k arguments) (λ t. left_on (left_of result) (H stack) t)
    call_runs stack =
        let S : List Value = reverse arguments ++ stack in
        let n : ℕ = argument_count (slice_get z.p.bodies b) in
        let back : CodeEnd → Acting Step = λ end. ends (called n end (H S)) in
        runs_on z.p z.c z.calls z.setup (instr.Call b) (H S) (z.functions k arguments) (λ t. left_on (left_of result) (H stack) t)
        (joined z.setup (same_by z.setup (ap (λ args. z.calls b args >>= back) (taken arguments stack n count_is)))
        (joined z.setup (same_then z.setup back (d.does arguments fit))
        (joined z.setup (regrouped z.setup (z.functions k arguments) (λ t. ends (end_by result t)) back)
        (each_same z.setup (z.functions k arguments)
        (λ t. joined z.setup (at_once z.setup (end_by result t) back) (same_by z.setup (ap (λ (x : Step). ends x) (ended result n S stack t (passed arguments stack n count_is)))))))))

    pub call_is_done : IsDone z h (λ stack. H (reverse arguments ++ stack)) (record { left = left_of result; code = just (instr.Call b ∷ []) }) (z.functions k arguments)
    call_is_done = record { stays = weaker_gives z.setup (record { gives = d.stays arguments fit }) (answer_left result); does = call_runs }

module _ (z : Setting) (is : IsSet z) (calling : CallsDo z) (body : BodySort) (answer : Meaning) (bound : List Bound) (names : List NameAt) (frame : Frame) (h : Held)
    (typed_in : IsTypedIn z.s.number (env_of z body answer bound)) (holds : Holds z bound names frame h) where
  abbrev E : Environment
  E = env_of z body answer bound

  abbrev M : MachineSymbols
  M = machine_symbols z.trees z.s.number z.m

  -- A function that is called, by its name.

  pub record FunctionFound (text : List ℕ) (kind : TypeName) (fs : List Formal) : Type 0 where
    pub number : ℕ
    pub symbol : FunctionSymbol
    pub named : function_named z.s.machine text ≡ Some number
    pub there : slice_get z.s.machine.functions number ≡ Some symbol
    pub formals : symbol.formals ≡ map (formal_symbol z.trees z.m) fs
    pub result : symbol.result ≡ kind_typed z.trees z.m kind
    pub formal : (f : Formal) → There fs f → IsFormal z f
    pub answers : (t : KnownType) × (type_in z.trees (within z.m) kind.text ≡ Some t) × ((t ≡ built_in Void) × (kind_typed z.trees z.m kind ≡ None) ⊎ (is_value z.m t ≡ true) × (value_kind z.trees z.m t ≡ kind_typed z.trees z.m kind))

  function_found : {at : Span} {text : List ℕ} {given : List Given} (c : IsFunctionCalled E at text given) → FunctionFound text c.kind c.formals.items
  function_found {at} {text} c =
      let f = function_stands z.trees is.accepted z.s.number z.m is.machine_there c.kind c.name c.formals c.attributes c.body c.span text c.found in
      let there = there_found (is_named text) (machine_declarations z.m) (function (Plain c.kind c.name c.formals c.attributes (Some c.body) c.span)) c.found in
      record {
        number = f.0;
        symbol = record { name = c.name.text; declaration = f.1; formals = map (formal_symbol z.trees z.m) c.formals.items; result = kind_typed z.trees z.m c.kind };
        named = subst (λ (m : MachineSymbols). function_named m text ≡ Some f.0) (sym is.machine) f.2;
        there = subst (λ (m : MachineSymbols). slice_get m.functions f.0 ≡ Some (record { name = c.name.text; declaration = f.1; formals = map (formal_symbol z.trees z.m) c.formals.items; result = kind_typed z.trees z.m c.kind })) (sym is.machine) f.3;
        formals = refl;
        result = refl;
        formal = λ g place. formal_is z.trees is.accepted z.s.number z.m is.machine_there c.kind c.name c.formals c.attributes c.body c.span there g place;
        answers = answer_is z.trees is.accepted z.s.number z.m is.machine_there c.kind c.name c.formals c.attributes c.body c.span there;
      }

  -- what it leaves is of the type that it answers
  valued_left : (text : List ℕ) (kind : TypeName) (fs : List Formal) (f : FunctionFound text kind fs) (t : KnownType) → type_in z.trees (within z.m) kind.text ≡ Some t → is_value z.m t ≡ true
      → value_kind z.trees z.m t ≡ kind_typed z.trees z.m kind → (v : Bool) → is_built_in Void (Some t) ≡ v → IsLeft z (cond v nothing (value_of_type z.m (Some t))) (left_of (result_of z.s (Some f.symbol)))
  valued_left text kind fs f t named valued kind_is true void =
      let same : Some t ≡ Some (built_in Void) = is_type Void (Some t) void in
      let one : t ≡ built_in Void = cc same in
      absurd (cc (sym valued ∙ ap (is_value z.m) one))
  valued_left text kind fs f t named valued kind_is false other =
      let k = kind_there z.trees z.s.number z.m is.machine_there kind.text t named valued in
      subst (λ b. IsLeft z (cond b (value t) unknown) (left_of (result_of z.s (Some f.symbol)))) (sym valued)
      (record { kind = k.0; kind_is = k.1; left_is = ap (λ o. left_of (option_map (kind_in z.s) o)) (f.result ∙ sym kind_is ∙ k.1) })

  pub answer_typed : (text : List ℕ) (kind : TypeName) (fs : List Formal) (f : FunctionFound text kind fs) → IsLeft z (answer_of_type z.m (type_in z.trees (within z.m) kind.text)) (left_of (result_of z.s (Some f.symbol)))
  answer_typed text kind fs f =
      let T : Option KnownType → Type 0 = λ o. IsLeft z (answer_of_type z.m o) (left_of (result_of z.s (Some f.symbol))) in
      subst T (sym f.answers.1) (by f.answers.0 f.answers.1 f.answers.2)
    where
      by : (t : KnownType) → type_in z.trees (within z.m) kind.text ≡ Some t → ((t ≡ built_in Void) × (kind_typed z.trees z.m kind ≡ None)) ⊎ ((is_value z.m t ≡ true) × (value_kind z.trees z.m t ≡ kind_typed z.trees z.m kind))
          → IsLeft z (answer_of_type z.m (Some t)) (left_of (result_of z.s (Some f.symbol)))
      by t named (inl (void, none)) =
          let L : KnownType → Type 0 = λ t. IsLeft z (answer_of_type z.m (Some t)) (left_of (result_of z.s (Some f.symbol))) in
          subst L (sym void) (ap (λ o. left_of (option_map (kind_in z.s) o)) (f.result ∙ none))
      by t named (inr (valued, kind_is)) = valued_left text kind fs f t named valued kind_is (is_built_in Void (Some t)) refl

  -- The whole call.

  abbrev K : List Formal → List Kind
  K fs = map (λ (g : Formal). kind_in z.s (formal_symbol z.trees z.m g).kind) fs

  formals_are : (text : List ℕ) (kind : TypeName) (fs : List Formal) (f : FunctionFound text kind fs) → formals_in z.s (Some f.symbol) ≡ K fs
  formals_are text kind fs f = ap (map (λ (g : FormalSymbol). kind_in z.s g.kind)) f.formals ∙ map_twice (formal_symbol z.trees z.m) (λ (g : FormalSymbol). kind_in z.s g.kind) fs

  kinds_count : (ks : List Kind) (vs : List Value) → are_of_kinds (tables z) ks vs ≡ true → length vs ≡ length ks
  kinds_count ks vs are = same_count z ks vs are

  abbrev F : List ℕ → Option ℕ → Piece
  F text o = function_or_code z.s z.numbers text o

  one_call : (text : List ℕ) (kind : TypeName) (fs : List Formal) (f : FunctionFound text kind fs) → z.may_call f.number ≡ true → (vs : List Value) → are_of_kinds (tables z) (K fs) vs ≡ true
      → IsDone z h (λ stack. held z h (reverse vs ++ stack)) (call_code z.s z.numbers text) (call_done z.s z.functions text vs)
  unfolding call_done
  one_call text kind fs f may vs are =
      let fit : are_of_kinds (tables z) (formals_in z.s (Some f.symbol)) vs ≡ true = ap (λ ks. are_of_kinds (tables z) ks vs) (formals_are text kind fs f) ∙ are in
      let count : length vs ≡ length f.symbol.formals = kinds_count (formals_in z.s (Some f.symbol)) vs fit ∙ length-map f.symbol.formals (λ (g : FormalSymbol). kind_in z.s g.kind) in
      let done = call_is_done z is calling h f.number f.symbol (calling.functions f.number f.symbol f.there may) vs fit count in
      let A : Option ℕ → Type 0 = λ o. IsDone z h (λ stack. held z h (reverse vs ++ stack)) (function_or_code z.s z.numbers text o) (function_or z.s z.functions text vs o) in
      let B : Option FunctionSymbol → Type 0 = λ o. IsDone z h (λ stack. held z h (reverse vs ++ stack)) (record { left = left_of (result_of z.s o); code = just (instr.Call (function_body_number z.numbers f.number) ∷ []) }) (z.functions f.number vs) in
      subst A (sym f.named) (subst B (sym f.there) done)

  call_left : (text : List ℕ) (kind : TypeName) (fs : List Formal) (f : FunctionFound text kind fs) → (call_code z.s z.numbers text).left ≡ left_of (result_of z.s (Some f.symbol))
  call_left text kind fs f = ap (λ o. (function_or_code z.s z.numbers text o).left) f.named ∙ ap (λ o. left_of (result_of z.s o)) f.there

  -- with whatever it answers
  pub function_good : {m : _} (span : Span) (text : List ℕ) (row : Row_of-Expr m) → MayCall z text → AreWhole z row → AllGood z body answer bound names frame h row → (c : IsFunctionCalled E span text (arguments_typed E row))
      → IsGood z h (answer_of_type z.m (type_in z.trees (within z.m) c.kind.text)) (after (all_arguments z.s z.numbers names (formals_of z.s text) row) (call_code z.s z.numbers text)) (values z.s z.functions frame [] row >>= call_done z.s z.functions text)
  function_good span text row may whole good c =
      let f = function_found c in
      let counted = counted_is span (length c.formals.items) 0 (arguments_typed E row) c.counted in
      let most : length (arguments_typed E row) ≤ length (map (formal_wanted E) c.formals.items) = omega (arith, leb-true (length (arguments_typed E row)) (length c.formals.items + 0) counted.1, length-map c.formals.items (formal_wanted E)) in
      let count : length (arguments_typed E row) ≡ length c.formals.items = omega (arith, leb-true (length c.formals.items) (length (arguments_typed E row)) counted.0, leb-true (length (arguments_typed E row)) (length c.formals.items + 0) counted.1) in
      let are = arguments_are E (map (formal_wanted E) c.formals.items) (arguments_typed E row) most (λ g there. written_known z.s.number E typed_in row g there) c.arguments in
      let listed = formals_listed z is body answer bound names frame h typed_in holds row c.formals.items f.formal count are whole good (formals_of z.s text) in
      let L : Left → Type 0 = λ l. IsLeft z (answer_of_type z.m (type_in z.trees (within z.m) c.kind.text)) l in
      record {
        left_is = subst L (sym (call_left text c.kind c.formals.items f)) (answer_typed text c.kind c.formals.items f);
        done = arguments_then z is calling h (call_code z.s z.numbers text) (call_done z.s z.functions text) listed (λ vs fit. one_call text c.kind c.formals.items f (may f.number f.named) vs fit);
      }
