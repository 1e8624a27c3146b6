-- A machine's bodies may be run as a scan does, where parts serve its protocol.
use Rattle.std.proofs.Common.{◌≡◌, ◌∙◌, ◌==◌, ◌+◌, ◌&&◌, ◌++◌, ℕ, suc, Bool, true, false, Option, None, Some, List, [], ◌∷◌, Result, Ok, Err, All, length, slice_get, refl, sym, ap, subst, arith}
use Rattle.std.specs.Prelude.{IfSome}
use Rattle.std.specs.Option.{option_map}
use Rattle.std.proofs.lemmas.Bool.Decides.{nat_tests}
use Rattle.std.proofs.lemmas.List.Elements.{All-cons, All-head, All-nil, All-tail}
use Rattle.slicc_ast.specs.declared.tree.item.Tree.{Tree}
use Rattle.ruby_value.specs.declared.fault.Fault.{Fault}
use Rattle.ruby_value.specs.declared.kind.Kind.{Kind}
use Rattle.ruby_value.specs.declared.kind.Kind.TheVariants as kind
use Rattle.ruby_value.specs.declared.setup.MachineSetup.{MachineSetup}
use Rattle.ruby_value.specs.declared.value.Value.{Value}
use Rattle.ruby_value.specs.declared.value.Value.TheVariants as value
use Rattle.ruby_symbols.specs.declared.machine.PortSymbol.{PortSymbol}
use Rattle.acts.specs.Prelude.{Done, ends as ends_body, follow, run}
use Rattle.acts.proofs.Walk.{run-then}
use Rattle.slicc_plan.specs.declared.row.Row.{Row}
use Rattle.machine_table.specs.Prelude.{answer}
use Rattle.action_code.specs.declared.program.Program.{Program}
use Rattle.action_code.specs.declared.program.TableDecl.{TableDecl}
use Rattle.action_code.specs.Prelude.{tables_of}
use Rattle.body_meaning.specs.declared.frame.Flow.{Flow}
use Rattle.body_meaning.specs.declared.frame.Flow.TheVariants.{WentOn, Returned, Triggered}
use Rattle.body_meaning.specs.declared.thing.Trigger.{Trigger}
use Rattle.body_meaning.specs.Prelude.{Reading, about, port_done}
use Rattle.body_code.specs.Prelude.{about_kinds, entry_kind, next_function, numbers_from, tbe_kind, transition_kinds}
use Rattle.code_meaning.specs.Prelude.{HoldsOfAnswer, IsDeclared, are_of_kinds, is_of_kind}
use Rattle.action_gen.specs.declared.parts.Head.{Head}
use Rattle.action_gen.specs.Prelude.{DoesPort, InMachine, IsBody, IsTypedFlow, TriggersTyped, about_values, count_of, port_end}
use Rattle.action_gen.specs.Carries.{AreTyped}
use Rattle.compiled_protocol.specs.Prelude.{Calls, MachineCode, MayCall, MayGoOn, MayRunPort, MayTry}
use Rattle.compiled_protocol.proofs.Carried.{IsRunBy, same_arguments}
use Rattle.compiled_protocol.proofs.Fires.{fourth}
use Rattle.compiled_protocol.proofs.Found.{FirstRow, IsFirst}

body_may : (p : Program) (machine : ℕ) (setup : MachineSetup) (kinds : List Kind) (result : Option Kind) (body : ℕ) (arguments : List Value)
    → IsDeclared p (slice_get p.machines machine) setup → IsBody p machine kinds result body → are_of_kinds (tables_of (slice_get p.machines machine)) kinds arguments ≡ true
    → MayCall p setup body arguments
body_may p machine setup kinds result body arguments declared is fit = record {
  code = is.code;
  is_there = is.is_there;
  arguments_are =
      ap (λ (n : ℕ). are_of_kinds (tables_of (slice_get p.machines n)) is.code.arguments arguments) is.of_machine
      ∙ ap (λ (ks : List Kind). are_of_kinds (tables_of (slice_get p.machines machine)) ks arguments) is.arguments_are ∙ fit;
  declared = subst (λ (n : ℕ). IsDeclared p (slice_get p.machines n) setup) (sym is.of_machine) declared;
}

-- one more argument
module _ (tables : List TableDecl) (k : Kind) (v : Value) (fits : is_of_kind tables k v ≡ true) where
  and_more : (a b c : Bool) → (a && b) ≡ true → (b ≡ true → c ≡ true) → (a && c) ≡ true
  and_more true b c is more = more is
  and_more false b c is more = absurd (cc is)

  pub with_last : (kinds : List Kind) (values : List Value) → are_of_kinds tables kinds values ≡ true → are_of_kinds tables (kinds ++ k ∷ []) (values ++ v ∷ []) ≡ true
  with_last [] [] is = ap (λ b. b && true) fits
  with_last [] (x ∷ values) is = absurd (cc is)
  with_last (l ∷ kinds) [] is = absurd (cc is)
  with_last (l ∷ kinds) (x ∷ values) is =
      and_more (is_of_kind tables l x) (are_of_kinds tables kinds values) (are_of_kinds tables (kinds ++ k ∷ []) (values ++ v ∷ [])) is (with_last kinds values)

module _ (trees : List Tree) (s : Reading) (c : MachineCode) (is : IsRunBy trees s c) (setup : MachineSetup)
    (declared : IsDeclared c.parts.program (slice_get c.parts.program.machines c.number) setup) where
  abbrev tables : List TableDecl
  tables = tables_of (slice_get c.parts.program.machines c.number)

  -- What was triggered with lines of these tables.

  module _ (t : Trigger) (typed : AreTyped c.parts.program trees c.number s (about t)) where
    read_may : (o : Option ℕ) (r : ℕ) → s.machine.get_state ≡ o → c.head.reads ≡ option_map (λ (f : ℕ). r) o
        → IfSome c.head.reads (λ body. Calls c setup body (about_values (about t)))
    read_may None r at has = subst (λ q. IfSome q (λ body. Calls c setup body (about_values (about t)))) (sym has) tt
    read_may (Some function) r at has =
        let does = is.carries.reads function r at has in
        subst (λ q. IfSome q (λ body. Calls c setup body (about_values (about t)))) (sym has)
        (body_may c.parts.program c.number setup (about_kinds s) _ r (about_values (about t)) declared does.body typed)

    ask_may : (o : Option ℕ) (r : ℕ) → next_function s.machine ≡ o → c.head.asks ≡ option_map (λ (f : ℕ). r) o
        → IfSome c.head.asks (λ body. Calls c setup body (value.Addr t.address ∷ []))
    ask_may None r at has = subst (λ q. IfSome q (λ body. Calls c setup body (value.Addr t.address ∷ []))) (sym has) tt
    ask_may (Some function) r at has =
        let does = is.carries.asks function r at has in
        subst (λ q. IfSome q (λ body. Calls c setup body (value.Addr t.address ∷ []))) (sym has)
        (body_may c.parts.program c.number setup (kind.Addr ∷ []) _ r (value.Addr t.address ∷ []) declared does.body refl)

    is_itself : (n : ℕ) → (n == n) ≡ true
    is_itself n = grind (arith, nat_tests)

    fire_may : (state event last : ℕ) (row : Row) → answer c.parts.tables c.number state event ≡ Some row → FirstRow s.machine.transitions state event 0 row
        → Calls c setup (c.head.first + row.transition) (about_values (about t) ++ value.Enum c.states last ∷ [])
    fire_may state event last row told first =
        let none : 0 + first.place ≡ first.place = omega arith in
        let place : row.transition ≡ first.place = ap (λ (x : Row). x.transition) first.is ∙ none in
        let does = is.carries.fires first.place first.transition first.at in
        let body = subst (λ n. IsBody c.parts.program c.number (kind.Addr ∷ is.entry ∷ is.tbe ∷ kind.Enum c.states 0 ∷ []) None (c.head.first + n)) place (is.fires state event row told) in
        let states : c.states ≡ s.machine.states =
        fourth kind.Addr is.entry is.tbe kind.Addr (entry_kind s) (tbe_kind s) c.states s.machine.states
        (same_arguments c.parts.program c.number (c.head.first + first.place) (kind.Addr ∷ is.entry ∷ is.tbe ∷ kind.Enum c.states 0 ∷ []) (transition_kinds s) None None body does.body) in
        let fits : is_of_kind tables (kind.Enum s.machine.states 0) (value.Enum c.states last) ≡ true = ap (λ n. s.machine.states == n) states ∙ is_itself s.machine.states in
        subst (λ n. Calls c setup (c.head.first + n) (about_values (about t) ++ value.Enum c.states last ∷ [])) (sym place)
        (body_may c.parts.program c.number setup (transition_kinds s) None (c.head.first + first.place) (about_values (about t) ++ value.Enum c.states last ∷ []) declared does.body
        (with_last tables (kind.Enum s.machine.states 0) (value.Enum c.states last) fits (about_kinds s) (about_values (about t)) typed))

    first_row : (state event : ℕ) (row : Row) (o : Option Row) → o ≡ Some row → IsFirst s.machine.transitions state event 0 o → FirstRow s.machine.transitions state event 0 row
    first_row state event row o at first = subst (IsFirst s.machine.transitions state event 0) at first

    pub may_try : MayTry c setup t
    may_try = record {
      reads = read_may s.machine.get_state (is.start + length s.machine.in_ports) refl (ap (λ (h : Head). h.reads) is.head);
      asks = ask_may (next_function s.machine) (is.start + length s.machine.in_ports + count_of s.machine.get_state) refl (ap (λ (h : Head). h.asks) is.head);
      numbered = is.numbered;
      fires = λ state event last row told. fire_may state event last row told (first_row state event row (answer c.parts.tables c.number state event) told (is.rows state event));
    }

  -- A port.

  flow_may : (flow : Flow) → IsTypedFlow c.parts.program c.number s flow → MayGoOn c setup (port_end flow)
  flow_may (Triggered t) typed = may_try t typed
  flow_may WentOn typed = tt
  flow_may (Returned x) typed = tt

  ended_may : (r : Result (Done Flow) Fault) → HoldsOfAnswer (IsTypedFlow c.parts.program c.number s) r
      → HoldsOfAnswer (MayGoOn c setup) (follow r (λ flow w. run (ends_body (port_end flow)) w))
  unfolding run
  ended_may (Ok d) typed = flow_may d.value typed
  ended_may (Err f) typed = tt

  port_may : (port : PortSymbol) (root : ℕ) → DoesPort c.parts.program trees c.number s port root → TriggersTyped c.parts.program c.number s port → MayRunPort c setup root
  port_may port root does typed = record {
    call = body_may c.parts.program c.number setup [] None root [] declared does.body refl;
    triggers = λ v here.
        let of_machine : InMachine c.parts.program c.number v = record {
          declared = subst (IsDeclared c.parts.program (slice_get c.parts.program.machines c.number)) (sym here.machine) declared;
          lawful = here.lawful;
        } in
        subst (HoldsOfAnswer (MayGoOn c setup)) (sym (does.does v of_machine ∙ run-then (port_done s port) (λ flow. ends_body (port_end flow)) v))
        (ended_may (run (port_done s port) v) (typed v of_machine));
  }

  ports_may : (ports : List PortSymbol) (first : ℕ)
      → ((j root : ℕ) (port : PortSymbol) → slice_get ports j ≡ Some port → slice_get (numbers_from first (length ports)) j ≡ Some root → DoesPort c.parts.program trees c.number s port root)
      → All (TriggersTyped c.parts.program c.number s) ports → All (MayRunPort c setup) (numbers_from first (length ports))
  ports_may [] first does typed = All-nil (MayRunPort c setup)
  ports_may (port ∷ ports) first does typed =
      All-cons (MayRunPort c setup) first (numbers_from (first + 1) (length ports))
      (port_may port first (does 0 first port refl refl) (All-head (TriggersTyped c.parts.program c.number s) port ports typed))
      (ports_may ports (first + 1) (λ j root q at is_root. does (suc j) root q at is_root) (All-tail (TriggersTyped c.parts.program c.number s) port ports typed))

  pub all_may : All (MayRunPort c setup) c.head.ports
  all_may =
      subst (λ (h : Head). All (MayRunPort c setup) h.ports) (sym is.head)
      (ports_may s.machine.in_ports is.start (λ j root port at is_root. is.carries.ports j root port at (ap (λ (h : Head). slice_get h.ports j) is.head ∙ is_root)) is.triggers)
