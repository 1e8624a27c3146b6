-- Calls from the states of a machine to their permissions.
use Rattle.std.proofs.Common.{◌≡◌, ◌∙◌, ◌++◌, ◌+◌, ◌&&◌, ◌||◌, ℕ, suc, Bool, true, false, cond, codes, Option, None, Some, List, [], ◌∷◌, find, length, map, reverse, slice_get, unwrap_or, refl, sym, ap, subst, arith}
use Rattle.std.specs.Option.{option_map}
use Rattle.std.specs.Str.{bytes_eq}
use Rattle.std.proofs.lemmas.Bool.{leb-true}
use Rattle.slicc_ast.specs.declared.tree.declaration.State.{State}
use Rattle.slicc_ast.specs.declared.tree.expression.Expr.{Row_of-Expr, end_of-Expr, more_of-Expr}
use Rattle.slicc_ast.specs.declared.tree.item.Tree.{Tree}
use Rattle.slicc_ast.specs.declared.tree.machine.Machine.{Machine}
use Rattle.slicc_ast.specs.declared.tree.span.Span.{Span}
use Rattle.ruby_value.specs.declared.kind.Kind.{Kind}
use Rattle.ruby_value.specs.declared.kind.Kind.TheVariants as kind
use Rattle.ruby_value.specs.declared.value.Value.{Value}
use Rattle.ruby_symbols.specs.declared.machine.MachineSymbols.{MachineSymbols}
use Rattle.ruby_symbols.specs.Prelude.{function_named}
use Rattle.slicc_plan.specs.declared.built_in.BuiltInType.TheVariants.{AccessPermission}
use Rattle.slicc_plan.specs.BuiltInCalls.{nothing, Call, permission_call, permission_reading}
use Rattle.slicc_plan.specs.CallTypes.{Given, Typed, answer_of, call_on, own_type, plain, states_type}
use Rattle.slicc_plan.specs.Declarations.{Declaration, states, within, machine_declarations, machines_of}
use Rattle.slicc_plan.specs.Environment.{BodySort, Bound, Environment}
use Rattle.slicc_plan.specs.ExpressionTypes.{arguments_typed, given_at, span_of, typed}
use Rattle.slicc_plan.specs.Limits.{is_states}
use Rattle.slicc_plan.specs.Meanings.{Meaning, value, no_line, bare_line, new_line, incoming, outgoing, table, in_port, out_port, nothing as nothing_meaning, unknown, agree, fits, is_line, line_structures, one_of}
use Rattle.slicc_plan.specs.Prelude.{machine_symbols, symbols_of}
use Rattle.slicc_plan.specs.SymbolsOf.{machines_from, symbols_of as symbols_made}
use Rattle.slicc_plan.specs.SymbolsOfMachines.{machine_symbols as machine_made, number_of_found}
use Rattle.slicc_plan.specs.TypeNumbers.{declared_number, default_member, no_structure, value_kind}
use Rattle.slicc_plan.specs.Types.{KnownType, built_in, enumerated}
use Rattle.slicc_plan.proofs.There.{found_passes}
use Rattle.rules_symbols.specs.TypedMeaning.{IsTypedIn}
use Rattle.rules_symbols.proofs.Arguments.{arguments_are, written_known}
use Rattle.rules_symbols.proofs.StatementForms.{IsCalled, counted_is}
use Rattle.rules_symbols.proofs.Types.{kinds_agree, text_same}
use Rattle.rules_symbols.proofs.WhatFits.{no_other_line}
use Rattle.acts.specs.Prelude.{Acting, ends, ◌>>=◌, found}
use Rattle.action_code.specs.declared.instr.Instr.TheVariants as instr
use Rattle.body_meaning.specs.declared.frame.Frame.{Frame}
use Rattle.body_meaning.specs.declared.thing.Thing.{Thing}
use Rattle.body_meaning.specs.declared.thing.Thing.TheVariants as thing
use Rattle.body_meaning.specs.Prelude.{free_call, function_or, is_permission_call, named_call as call_done, permission_of, plain_call, plain_or, trigger_of, value_found, value_in, values}
use Rattle.code_meaning.specs.declared.code_end.CodeEnd.{CodeEnd}
use Rattle.code_meaning.specs.declared.code_end.CodeEnd.TheVariants as code_end
use Rattle.code_meaning.specs.Prelude.{Held, On, Step, argument_count, are_of_kinds, arguments_on, called, is_of_kind}
use Rattle.code_meaning.proofs.Gives.{ends_gives}
use Rattle.body_code.specs.declared.left.Left.{Left}
use Rattle.body_code.specs.declared.left.Left.TheVariants as left
use Rattle.body_code.specs.declared.left.NameAt.{NameAt}
use Rattle.body_code.specs.Prelude.{Piece, after, all_arguments, code_kind, formals_of, named_call as call_code, or_none, permission_body_number, permission_called, permission_machine, piece, plain_or as plain_code}
use Rattle.body_code.specs.Calls.{function_or as function_or_code}
use Rattle.code_laws.specs.Calling.{CallsDo, DoesPermissions}
use Rattle.code_laws.specs.Holding.{Holds, IsLeft}
use Rattle.code_laws.specs.Setting.{IsSet, Setting, env_of, tables}
use Rattle.code_laws.proofs.AllForms.{PermissionsGood}
use Rattle.code_laws.proofs.ArgumentRows.{IsListed, more_listed, none_listed}
use Rattle.code_laws.proofs.Forms.{AllGood}
use Rattle.code_laws.proofs.FunctionForms.{arguments_then}
use Rattle.code_laws.proofs.Good.{IsDone, IsGood, as_value, held}
use Rattle.code_laws.proofs.Operands.{used_where}
use Rattle.code_laws.proofs.Same.{at_once, joined, same_by, same_then, turned}
use Rattle.code_laws.proofs.Segments.{runs_on}

none_some : (c : Call) → None ≡ Some c → ⊥
none_some c e = cc e

-- A name that no built-in call has.

other_than : (text name : List ℕ) (x : Call) → call_on nothing text ≡ None → call_on nothing name ≡ Some x → bytes_eq text name ≡ false
other_than text name x none some = by (bytes_eq text name) refl
  where
    by : (b : Bool) → bytes_eq text name ≡ b → b ≡ false
    by false e = refl
    by true e = absurd (cc (sym none ∙ ap (call_on nothing) (text_same text name e) ∙ some))

abbrev Unlisted : List ℕ → Type 0
Unlisted text = call_on nothing text ≡ None

-- of tests in a row none holds
next : (b : Bool) (x y : Option ℕ) → b ≡ false → y ≡ None → cond b x y ≡ None
next b x y e none = ap (λ v. cond v x y) e ∙ none

unlisted : (text : List ℕ) → Unlisted text → plain_call text ≡ None
unlisted text u =
    next _ _ _ (other_than text (codes "clockEdge") _ u refl)
    (next _ _ _ (other_than text (codes "curCycle") _ u refl)
    (next _ _ _ (other_than text (codes "cyclesToTicks") _ u refl)
    (next _ _ _ (other_than text (codes "ticksToCycles") _ u refl)
    (next _ _ _ (other_than text (codes "mapAddressToMachine") _ u refl)
    (next _ _ _ (other_than text (codes "makeLineAddress") _ u refl)
    (next _ _ _ (other_than text (codes "machineIDToNodeID") _ u refl)
    (next _ _ _ (other_than text (codes "machineIDToMachineType") _ u refl)
    (next _ _ _ (other_than text (codes "wakeUpBuffers") _ u refl)
    (next _ _ _ (other_than text (codes "wakeUpAllBuffers") _ u refl)
    (next _ _ _ (other_than text (codes "profileMsgDelay") _ u refl) refl))))))))))

-- The machine that is meant.

abbrev is_of : List ℕ → Machine → Bool
is_of text m = bytes_eq (permission_call m.name.text) text

pub record MachineFound (trees : List Tree) (text : List ℕ) (number k : ℕ) (ms : List Machine) (m : Machine) : Type 0 where
  pub place : ℕ
  pub in_code : permission_machine text k (machines_from trees number ms) ≡ Some (k + place)
  pub in_body : find (is_permission_call text) (machines_from trees number ms) ≡ Some (machine_symbols trees (number + place) m)
  pub there : slice_get (machines_from trees number ms) place ≡ Some (machine_symbols trees (number + place) m)

same_test : (trees : List Tree) (text : List ℕ) (number : ℕ) (m : Machine) → is_permission_call text (machine_symbols trees number m) ≡ is_of text m
unfolding machine_made
same_test trees text number m = refl

machine_found : (trees : List Tree) (text : List ℕ) (number k : ℕ) (ms : List Machine) (m : Machine) → find (is_of text) ms ≡ Some m → MachineFound trees text number k ms m
machine_found trees text number k [] m e = absurd (cc e)
machine_found trees text number k (x ∷ ms) m e = by (is_of text x) (same_test trees text number x) (λ rest. machine_found trees text (number + 1) (k + 1) ms m rest) e
  where
    by : (b : Bool) → is_permission_call text (machine_symbols trees number x) ≡ b → (find (is_of text) ms ≡ Some m → MachineFound trees text (number + 1) (k + 1) ms m) → cond b (Some x) (find (is_of text) ms) ≡ Some m
        → MachineFound trees text number k (x ∷ ms) m
    by true same rest e =
        let one : x ≡ m = cc e in
        let zero_k : k ≡ k + 0 = omega arith in
        let zero_n : number ≡ number + 0 = omega arith in
        let symbols : machine_symbols trees number x ≡ machine_symbols trees (number + 0) m = ap (λ n. machine_symbols trees n x) zero_n ∙ ap (machine_symbols trees (number + 0)) one in
        record {
          place = 0;
          in_code = ap (λ b. cond b (Some k) (permission_machine text (k + 1) (machines_from trees (number + 1) ms))) same ∙ ap Some zero_k;
          in_body = ap (λ b. cond b (Some (machine_symbols trees number x)) (find (is_permission_call text) (machines_from trees (number + 1) ms))) same ∙ ap Some symbols;
          there = ap Some symbols;
        }
    by false same rest e =
        let r = rest e in
        let next_k : k + 1 + r.place ≡ k + suc r.place = omega arith in
        let next_n : number + 1 + r.place ≡ number + suc r.place = omega arith in
        let symbols : machine_symbols trees (number + 1 + r.place) m ≡ machine_symbols trees (number + suc r.place) m = ap (λ n. machine_symbols trees n m) next_n in
        record {
          place = suc r.place;
          in_code = ap (λ b. cond b (Some k) (permission_machine text (k + 1) (machines_from trees (number + 1) ms))) same ∙ r.in_code ∙ ap Some next_k;
          in_body = ap (λ b. cond b (Some (machine_symbols trees number x)) (find (is_permission_call text) (machines_from trees (number + 1) ms))) same ∙ r.in_body ∙ ap Some symbols;
          there = r.there ∙ ap Some symbols;
        }

machines_are : (trees : List Tree) → (symbols_of trees).machines ≡ machines_from trees 0 (machines_of trees)
unfolding symbols_made
machines_are trees = refl

states_are : (trees : List Tree) (number : ℕ) (m : Machine) → (machine_symbols trees number m).states ≡ number_of_found trees m (find is_states (machine_declarations m))
unfolding machine_made
states_are trees number m = refl

-- The argument is a state of that machine.

module _ (z : Setting) where
  alone : (b : Bool) → (b || false) ≡ true → b ≡ true
  alone true e = refl
  alone false e = e

  -- of the type of the machine's states
  state_by : (m : Machine) (d : Declaration) → is_states d ≡ true → (meaning : Meaning) (l : Left) → IsLeft z meaning l → fits z.m (one_of (own_type m (Some d))) meaning ≡ true → l ≡ left.Value (kind.Enum (number_of_found z.trees m (Some d)) 0)
  state_by m (states s) so (value u) l typed fit =
      let t : KnownType = enumerated (within m) s.name.text (map (λ (x : State). x.name.text) s.members) in
      let like : agree (enumerated (within m) s.name.text (map (λ (x : State). x.name.text) s.members)) u ≡ true = alone (agree (enumerated (within m) s.name.text (map (λ (x : State). x.name.text) s.members)) u) fit in
      let of_t : value_kind z.trees z.m (enumerated (within m) s.name.text (map (λ (x : State). x.name.text) s.members)) ≡ Some typed.kind = kinds_agree z.trees z.m (enumerated (within m) s.name.text (map (λ (x : State). x.name.text) s.members)) u like ∙ typed.kind_is in
      typed.left_is ∙ ap left.Value (by (declared_number z.trees (enumerated (within m) s.name.text (map (λ (x : State). x.name.text) s.members))) of_t)
    where
      by : (o : Option ℕ) → option_map (λ n. kind.Enum n (default_member z.trees (enumerated (within m) s.name.text (map (λ (x : State). x.name.text) s.members)))) o ≡ Some typed.kind
          → code_kind z.s.machine typed.kind ≡ kind.Enum (unwrap_or o no_structure) 0
      by None e = absurd (cc e)
      by (Some n) e = let same : kind.Enum n (default_member z.trees (enumerated (within m) s.name.text (map (λ (x : State). x.name.text) s.members))) ≡ typed.kind = cc e in ap (code_kind z.s.machine) (sym same)
  state_by m (states s) so no_line l typed fit =
      let t : KnownType = enumerated (within m) s.name.text (map (λ (x : State). x.name.text) s.members) in
      let line : is_line z.m (enumerated (within m) s.name.text (map (λ (x : State). x.name.text) s.members)) ≡ true = alone (is_line z.m (enumerated (within m) s.name.text (map (λ (x : State). x.name.text) s.members))) fit in
      absurd (cc (sym line ∙ no_other_line z.m (line_structures z.m) (enumerated (within m) s.name.text (map (λ (x : State). x.name.text) s.members)) (λ scope s e. cc e)))
  state_by m (states s) so bare_line l typed fit = absurd (cc fit)
  state_by m (states s) so (new_line made) l typed fit = absurd typed
  state_by m (states s) so (incoming t) l typed fit = absurd (cc fit)
  state_by m (states s) so (outgoing t) l typed fit = absurd (cc fit)
  state_by m (states s) so (table b) l typed fit = absurd (cc fit)
  state_by m (states s) so (in_port t) l typed fit = absurd (cc fit)
  state_by m (states s) so (out_port t) l typed fit = absurd (cc fit)
  state_by m (states s) so nothing_meaning l typed fit = absurd (cc fit)
  state_by m (states s) so unknown l typed fit = absurd typed
  state_by m d so meaning l typed fit = absurd (cc so)

  none_fits : (meaning : Meaning) (l : Left) → IsLeft z meaning l → fits z.m (one_of []) meaning ≡ true → ⊥
  none_fits (value u) l typed fit = cc fit
  none_fits no_line l typed fit = cc fit
  none_fits bare_line l typed fit = cc fit
  none_fits (new_line made) l typed fit = typed
  none_fits (incoming t) l typed fit = cc fit
  none_fits (outgoing t) l typed fit = cc fit
  none_fits (table b) l typed fit = cc fit
  none_fits (in_port t) l typed fit = cc fit
  none_fits (out_port t) l typed fit = cc fit
  none_fits nothing_meaning l typed fit = cc fit
  none_fits unknown l typed fit = typed

  state_left : (m : Machine) (meaning : Meaning) (l : Left) → IsLeft z meaning l → fits z.m (one_of (states_type m)) meaning ≡ true → l ≡ left.Value (kind.Enum (number_of_found z.trees m (find is_states (machine_declarations m))) 0)
  state_left m meaning l typed fit = by (find is_states (machine_declarations m)) refl fit
    where
      by : (o : Option Declaration) → find is_states (machine_declarations m) ≡ o → fits z.m (one_of (own_type m o)) meaning ≡ true → l ≡ left.Value (kind.Enum (number_of_found z.trees m o) 0)
      by None e fit = absurd (none_fits meaning l typed fit)
      by (Some d) e fit = state_by m d (found_passes is_states (machine_declarations m) d e) meaning l typed fit

module _ (z : Setting) (is : IsSet z) (calling : CallsDo z) (body : BodySort) (answer : Meaning) (bound : List Bound) (names : List NameAt) (frame : Frame) (h : Held)
    (typed_in : IsTypedIn z.s.number (env_of z body answer bound)) (holds : Holds z bound names frame h) where
  abbrev E : Environment
  E = env_of z body answer bound

  -- The call.

  code_is : (text : List ℕ) (place : ℕ) → function_named z.s.machine text ≡ None → plain_call text ≡ None → permission_machine text 0 z.s.symbols.machines ≡ Some place → call_code z.s z.numbers text ≡ permission_called z.numbers place
  code_is text place none no_call found =
      ap (function_or_code z.s z.numbers text) none ∙ ap (plain_code z.s z.numbers text) no_call ∙ ap (λ o. or_none (option_map (permission_called z.numbers) o)) found

  body_is : (text : List ℕ) (m : MachineSymbols) (v : Value) → function_named z.s.machine text ≡ None → plain_call text ≡ None → bytes_eq text (codes "trigger") ≡ false → find (is_permission_call text) z.s.symbols.machines ≡ Some m
      → call_done z.s z.functions text (v ∷ []) ≡ ends (thing.Value (permission_of m v))
  unfolding call_done free_call value_found found ◌>>=◌
  body_is text m v none no_call other is_found =
      ap (function_or z.s z.functions text (v ∷ [])) none
      ∙ ap (λ b. cond b (ends (thing.Trigger (trigger_of z.s (v ∷ [])))) (plain_or z.s text (v ∷ []) (plain_call text))) other ∙ ap (plain_or z.s text (v ∷ [])) no_call
      ∙ ap (λ o. value_found (option_map (λ m. permission_of m v) o)) is_found

  permission_runs : (place : ℕ) (m : MachineSymbols) → DoesPermissions z place m → (v : Value) → is_of_kind (tables z) (kind.Enum m.states 0) v ≡ true
      → IsDone z h (λ stack. held z h (v ∷ stack)) (permission_called z.numbers place) (ends (thing.Value (permission_of m v)))
  permission_runs place m d v of = record {
    stays = ends_gives z.setup (record { value = permission_of m v; is = refl; of_kind = refl });
    does = λ stack.
        let b : ℕ = permission_body_number z.numbers place in
        let n : ℕ = argument_count (slice_get z.p.bodies (permission_body_number z.numbers place)) in
        let back : ℕ → CodeEnd → Acting Step = λ k end. ends (called k end (held z h (v ∷ stack))) in
        runs_on z.p z.c z.calls z.setup (instr.Call (permission_body_number z.numbers place)) (held z h (v ∷ stack)) (ends (thing.Value (permission_of m v))) (λ x. held z h (value_in x ∷ stack))
        (joined z.setup (same_by z.setup (ap (λ k. z.calls (permission_body_number z.numbers place) (arguments_on k (v ∷ stack)) >>= (λ end. ends (called k end (held z h (v ∷ stack))))) d.count))
        (joined z.setup (same_then z.setup (λ end. ends (called 1 end (held z h (v ∷ stack)))) (d.does v of))
        (joined z.setup (at_once z.setup (code_end.Value (permission_of m v)) (λ end. ends (called 1 end (held z h (v ∷ stack)))))
        (turned z.setup (at_once z.setup (thing.Value (permission_of m v)) (λ x. ends (On (held z h (value_in x ∷ stack)))))))));
  }

  one_value : (k : Kind) (vs : List Value) → are_of_kinds (tables z) (k ∷ []) vs ≡ true → (v : Value) × (vs ≡ v ∷ []) × (is_of_kind (tables z) k v ≡ true)
  one_value k [] are = absurd (cc are)
  one_value k (v ∷ []) are = (v, refl, first (is_of_kind (tables z) k v) are)
    where
      first : (b : Bool) → (b && true) ≡ true → b ≡ true
      first true e = refl
      first false e = e
  one_value k (v ∷ w ∷ vs) are = absurd (last (is_of_kind (tables z) k v) are)
    where
      last : (b : Bool) → (b && false) ≡ true → ⊥
      last true e = cc e
      last false e = cc e

  state_listed : {m : _} (span : Span) (on : Typed) (machine : Machine) (row : Row_of-Expr m) → IsCalled E span on (permission_reading machine) (arguments_typed E row) → AllGood z body answer bound names frame h row → (expected : List Kind)
      → IsListed z h (kind.Enum (number_of_found z.trees machine (find is_states (machine_declarations machine))) 0 ∷ []) (all_arguments z.s z.numbers names expected row) (λ before. values z.s z.functions frame before row)
  state_listed span on machine end_of-Expr called good expected =
      let counted = counted_is span 1 0 [] called.counted in absurd (cc counted.0)
  state_listed span on machine (more_of-Expr e (more_of-Expr second row)) called good expected =
      let counted = counted_is span 1 0 (arguments_typed E (more_of-Expr e (more_of-Expr second row))) called.counted in
      absurd (omega (arith, leb-true (length (arguments_typed E (more_of-Expr e (more_of-Expr second row)))) (1 + 0) counted.1))
  state_listed span on machine (more_of-Expr e end_of-Expr) called good expected =
      let g : Given = given_at (span_of e) (typed E e) in
      let are = arguments_are E (one_of (states_type machine) ∷ []) (given_at (span_of e) (typed E e) ∷ []) (omega arith) (λ x there. written_known z.s.number E typed_in (more_of-Expr e end_of-Expr) x there) called.arguments in
      let given = are.0 in
      let one = good.0 given.unbroken (used_where z.m (one_of (states_type machine)) (typed E e).meaning refl refl given.fitting) (slice_get expected 0) in
      let l = state_left z machine (typed E e).meaning (piece z.s z.numbers names (slice_get expected 0) e).left one.left_is given.fitting in
      more_listed z h (λ before. values z.s z.functions frame before end_of-Expr)
      (as_value z h (kind.Enum (number_of_found z.trees machine (find is_states (machine_declarations machine))) 0) l one.done) (none_listed z h)

  abbrev Permitted : {m : _} → Meaning → List ℕ → Row_of-Expr m → Type 0
  Permitted meaning text row = IsGood z h meaning (after (all_arguments z.s z.numbers names (formals_of z.s text) row) (call_code z.s z.numbers text)) (values z.s z.functions frame [] row >>= call_done z.s z.functions text)

  permitted : {m : _} (span : Span) (text : List ℕ) (row : Row_of-Expr m) (machine : Machine) → Unlisted text → find (is_of text) (machines_of z.trees) ≡ Some machine → IsCalled E span (plain nothing_meaning []) (permission_reading machine) (arguments_typed E row)
      → AllGood z body answer bound names frame h row → function_named z.s.machine text ≡ None → Permitted (value (built_in AccessPermission)) text row
  permitted span text row machine u found called good none =
      let f = machine_found z.trees text 0 0 (machines_of z.trees) machine found in
      let zero_place : 0 + f.place ≡ f.place = omega arith in
      let machines : z.s.symbols.machines ≡ machines_from z.trees 0 (machines_of z.trees) = ap (λ ss. ss.machines) is.symbols ∙ machines_are z.trees in
      let symbols : MachineSymbols = machine_symbols z.trees (0 + f.place) machine in
      let at_code : permission_machine text 0 z.s.symbols.machines ≡ Some f.place = ap (permission_machine text 0) machines ∙ f.in_code ∙ ap Some zero_place in
      let at_body : find (is_permission_call text) z.s.symbols.machines ≡ Some (machine_symbols z.trees (0 + f.place) machine) = ap (find (is_permission_call text)) machines ∙ f.in_body in
      let there : slice_get z.s.symbols.machines f.place ≡ Some (machine_symbols z.trees (0 + f.place) machine) = ap (λ ms. slice_get ms f.place) machines ∙ f.there in
      let d = calling.permissions f.place (machine_symbols z.trees (0 + f.place) machine) there in
      let code = code_is text f.place none (unlisted text u) at_code in
      let other = other_than text (codes "trigger") _ u refl in
      let kinds : number_of_found z.trees machine (find is_states (machine_declarations machine)) ≡ (machine_symbols z.trees (0 + f.place) machine).states = sym (states_are z.trees (0 + f.place) machine) in
      let L : Piece → Type 0 = λ p. IsLeft z (value (built_in AccessPermission)) p.left in
      record {
        left_is = subst L (sym code) (record { kind = kind.Enum 1 0; kind_is = refl; left_is = refl });
        done = arguments_then z is calling h (call_code z.s z.numbers text) (call_done z.s z.functions text) (state_listed span (plain nothing_meaning []) machine row called good (formals_of z.s text))
            (λ vs are.
            let v = one_value (kind.Enum (number_of_found z.trees machine (find is_states (machine_declarations machine))) 0) vs are in
            let of : is_of_kind (tables z) (kind.Enum (machine_symbols z.trees (0 + f.place) machine).states 0) v.0 ≡ true = ap (λ n. is_of_kind (tables z) (kind.Enum n 0) v.0) (sym kinds) ∙ v.2 in
            let P : Piece → Type 0 = λ p. IsDone z h (λ stack. held z h (reverse vs ++ stack)) p (call_done z.s z.functions text vs) in
            let W : List Value → Type 0 = λ ws. IsDone z h (λ stack. held z h (reverse ws ++ stack)) (permission_called z.numbers f.place) (call_done z.s z.functions text ws) in
            let T : Acting Thing → Type 0 = λ t. IsDone z h (λ stack. held z h (v.0 ∷ stack)) (permission_called z.numbers f.place) t in
            subst P (sym code)
            (subst W (sym v.1)
            (subst T (sym (body_is text (machine_symbols z.trees (0 + f.place) machine) v.0 none (unlisted text u) other at_body)) (permission_runs f.place (machine_symbols z.trees (0 + f.place) machine) d v.0 of))));
      }

  pub permissions_good : PermissionsGood z is calling body answer bound names frame h typed_in holds
  permissions_good = record { each = λ span text row c u named called whole good none. by span text row c u called good none (find (is_of text) (machines_of z.trees)) refl named }
    where
      by : {m : _} (span : Span) (text : List ℕ) (row : Row_of-Expr m) (c : Call) → Unlisted text → IsCalled E span (plain nothing_meaning []) c (arguments_typed E row) → AllGood z body answer bound names frame h row → function_named z.s.machine text ≡ None
          → (o : Option Machine) → find (is_of text) (machines_of z.trees) ≡ o → option_map permission_reading o ≡ Some c → Permitted (answer_of z.m c.receiver c.answer) text row
      by span text row c u called good none None found e = absurd (none_some c e)
      by span text row c u called good none (Some machine) found e =
          let same : permission_reading machine ≡ c = cc e in
          let K : Call → Type 0 = λ x. IsCalled E span (plain nothing_meaning []) x (arguments_typed E row) in
          let A : Call → Type 0 = λ x. Permitted (answer_of z.m x.receiver x.answer) text row in
          subst A same (permitted span text row machine u found (subst K (sym same) called) good none)
