-- States that bodies as code answer are those that the functions of the text do.
use Rattle.std.proofs.Common.{◌≡◌, ◌∙◌, ◌+◌, ℕ, true, Option, None, Some, List, [], ◌∷◌, length, refl, sym, ap, subst}
use Rattle.std.specs.Prelude.{IfSome}
use Rattle.std.specs.Option.{option_map}
use Rattle.slicc_ast.specs.declared.tree.item.Tree.{Tree}
use Rattle.ruby_value.specs.declared.kind.Kind.{Kind}
use Rattle.ruby_value.specs.declared.kind.Kind.TheVariants as kind
use Rattle.ruby_value.specs.declared.value.Value.{Value}
use Rattle.ruby_value.specs.declared.value.Value.TheVariants as value
use Rattle.ruby_symbols.specs.declared.machine.MachineSymbols.{MachineSymbols}
use Rattle.ruby_symbols.specs.Prelude.{get_state_arguments}
use Rattle.ctl_face.specs.Prelude.{LocalView}
use Rattle.acts.specs.Prelude.{ends as ends_body, run, ◌>>=◌}
use Rattle.body_meaning.specs.declared.frame.Known.{Known}
use Rattle.body_meaning.specs.declared.thing.Thing.{Thing}
use Rattle.body_meaning.specs.declared.thing.Trigger.{Trigger}
use Rattle.body_meaning.specs.Prelude.{Reading, about, arguments_for, as_member, calls_of, ends, known, next_asked, read_state, run_scan, state_by, then_try, value_in, with_known}
use Rattle.body_meaning.specs.Prelude as text
use Rattle.body_code.specs.Prelude.{about_kinds, next_function, state_kind}
use Rattle.body_code.specs.Programs.{asks_next}
use Rattle.code_meaning.specs.declared.code_end.CodeEnd.TheVariants as code_end
use Rattle.code_meaning.specs.Prelude.{run_body}
use Rattle.machine_table.specs.Prelude.{state_count}
use Rattle.action_gen.specs.declared.parts.Head.{Head}
use Rattle.action_gen.specs.Prelude.{DoesAsk, DoesRead, InMachine, IsBody, about_values, answer_end, count_of}
use Rattle.action_gen.specs.Carries.{AreTyped}
use Rattle.compiled_protocol.specs.Prelude.{MachineCode, member_in, state_answered, state_asked, state_in, state_read}
use Rattle.compiled_protocol.proofs.Asked.{body_as, known_then, stays_in, then_same}
use Rattle.compiled_protocol.proofs.Carried.{IsRunBy, member_same, same_result}

module _ (trees : List Tree) (s : Reading) (c : MachineCode) (is : IsRunBy trees s c) where
  abbrev In : LocalView → Type 0
  In = InMachine c.parts.program c.number

  state_same : c.states ≡ s.machine.states → (v : Value) → state_in c.states (state_count c.parts.tables c.number) (code_end.Value v) ≡ as_member s s.machine.states v
  state_same states v =
      ap (λ n. member_in n (state_count c.parts.tables c.number) v) states ∙ member_same s s.machine.states (state_count c.parts.tables c.number) is.count v

  -- A body that does what a function does.
  pub answered_same : c.states ≡ s.machine.states → (k : Known) (body function : ℕ) (given arguments : List Value) (v : LocalView) → In v
      → run (run_body c.parts.program body given) v ≡ run (calls_of s function arguments >>= (λ t. ends_body (answer_end t))) v
      → run_scan (state_answered c k body given) v ≡ run_scan (with_known k (text.state_answered s function arguments)) v
  unfolding with_known
  answered_same states k body function given arguments v here does =
      body_as k (run_body c.parts.program body given) (calls_of s function arguments) answer_end (λ x. refl)
      (λ end. ends (state_in c.states (state_count c.parts.tables c.number) end)) v does
      ∙ then_same (λ (x : Thing) w. In w) (with_known k (calls_of s function arguments)) (with_known k (calls_of s function arguments))
      (λ x. ends (state_in c.states (state_count c.parts.tables c.number) (answer_end x)))
      (λ x. with_known k (ends_body (as_member s s.machine.states (value_in x))))
      (λ x w _. ap (λ n. run_scan (ends n) w) (state_same states (value_in x)))
      v refl (stays_in c.parts.program c.number (with_known k (calls_of s function arguments)) v here)
      ∙ sym (known_then k (calls_of s function arguments) (λ x. ends_body (as_member s s.machine.states (value_in x))) v)

  -- The state before.

  enum_same : (a b : ℕ) → ◌≡◌ {A = Option Kind} (Some (kind.Enum a 0)) (Some (kind.Enum b 0)) → a ≡ b
  enum_same a b same = cc same

  read_states : (function root : ℕ) → c.head.reads ≡ Some root → DoesRead c.parts.program trees c.number s function root → c.states ≡ s.machine.states
  read_states function root has does =
      enum_same c.states s.machine.states
      (same_result c.parts.program c.number root (kind.Addr ∷ is.entry ∷ is.tbe ∷ []) (about_kinds s) (Some (kind.Enum c.states 0)) (Some (state_kind s))
      (subst (λ o. IfSome o (IsBody c.parts.program c.number (kind.Addr ∷ is.entry ∷ is.tbe ∷ []) (Some (kind.Enum c.states 0)))) has is.reads) does.body)

  read_case : (t : Trigger) → AreTyped c.parts.program trees c.number s (about t) → (v : LocalView) → In v → (o : Option ℕ) (r : ℕ) → s.machine.get_state ≡ o
      → c.head.reads ≡ option_map (λ (f : ℕ). r) o → run_scan (state_read c t c.head.reads) v ≡ run_scan (with_known (known t None) (state_by s (about t) o)) v
  read_case t typed v here None r at has = ap (λ q. run_scan (state_read c t q) v) has
  read_case t typed v here (Some function) r at has =
      let does = is.carries.reads function r at has in
      ap (λ q. run_scan (state_read c t q) v) has
      ∙ answered_same (read_states function r has does) (known t None) r function (about_values (about t))
      (arguments_for s.machine (about t) 0 (get_state_arguments s.machine)) v here (does.does (about t) typed v here)

  pub read_same : (t : Trigger) → AreTyped c.parts.program trees c.number s (about t) → (v : LocalView) → In v
      → run_scan (state_read c t c.head.reads) v ≡ run_scan (with_known (known t None) (read_state s (about t))) v
  read_same t typed v here =
      read_case t typed v here s.machine.get_state (is.start + length s.machine.in_ports) refl (ap (λ (h : Head). h.reads) is.head)

  -- The state that `*` enters.

  ask_states : (function root : ℕ) → c.head.asks ≡ Some root → DoesAsk c.parts.program trees c.number s function root → c.states ≡ s.machine.states
  ask_states function root has does =
      enum_same c.states s.machine.states
      (same_result c.parts.program c.number root (kind.Addr ∷ []) (kind.Addr ∷ []) (Some (kind.Enum c.states 0)) (Some (state_kind s))
      (subst (λ o. IfSome o (IsBody c.parts.program c.number (kind.Addr ∷ []) (Some (kind.Enum c.states 0)))) has is.asks) does.body)

  ask_case : (t : Trigger) (state : ℕ) (v : LocalView) → In v → (o : Option ℕ) (r : ℕ) → next_function s.machine ≡ o
      → c.head.asks ≡ option_map (λ (f : ℕ). r) o → run_scan (state_asked c t state c.head.asks) v ≡ run_scan (with_known (known t (Some state)) (next_asked s t.address o)) v
  unfolding with_known
  ask_case t state v here None r at has = ap (λ q. run_scan (state_asked c t state q) v) has
  ask_case t state v here (Some function) r at has =
      let does = is.carries.asks function r at has in
      ap (λ q. run_scan (state_asked c t state q) v) has
      ∙ answered_same (ask_states function r has does) (known t (Some state)) r function (value.Addr t.address ∷ []) (value.Addr t.address ∷ []) v here
      (does.does t.address v here)

  next_is : (m : MachineSymbols) → asks_next m ≡ true → next_function m ≡ m.get_next_state
  next_is m asked = rw asked refl

  pub ask_same : asks_next s.machine ≡ true → (t : Trigger) (state : ℕ) (v : LocalView) → In v
      → run_scan (state_asked c t state c.head.asks) v ≡ run_scan (with_known (known t (Some state)) (next_asked s t.address s.machine.get_next_state)) v
  ask_same asked t state v here =
      ask_case t state v here (next_function s.machine) (is.start + length s.machine.in_ports + count_of s.machine.get_state) refl (ap (λ (h : Head). h.asks) is.head)
      ∙ ap (λ o. run_scan (with_known (known t (Some state)) (next_asked s t.address o)) v) (next_is s.machine asked)
