-- A written transition that its body as code fires is fired as the text has it.
use Rattle.std.proofs.Common.{◌≡◌, ◌∙◌, ◌+◌, ◌++◌, ◌||◌, ℕ, zero, suc, Bool, true, false, Option, None, Some, List, [], ◌∷◌, Result, Ok, Err, slice_get, unwrap_or, refl, sym, ap, subst}
use Rattle.std.specs.List.{list_any}
use Rattle.slicc_ast.specs.declared.tree.item.Tree.{Tree}
use Rattle.ruby_value.specs.declared.fault.Fault.{Fault}
use Rattle.ruby_value.specs.declared.kind.Kind.{Kind}
use Rattle.ruby_value.specs.declared.kind.Kind.TheVariants as kind
use Rattle.ruby_value.specs.declared.value.Value.TheVariants as value
use Rattle.ruby_symbols.specs.declared.machine.MachineSymbols.{MachineSymbols}
use Rattle.ruby_symbols.specs.declared.machine.Next.{Next}
use Rattle.ruby_symbols.specs.declared.machine.Next.TheVariants.{To, Asked}
use Rattle.ruby_symbols.specs.declared.machine.TransitionSymbol.{TransitionSymbol}
use Rattle.ctl_face.specs.Prelude.{LocalView}
use Rattle.acts.specs.Prelude.{Done, ends as ends_body, run, ◌>>=◌}
use Rattle.slicc_plan.specs.declared.row.Row.{Row}
use Rattle.slicc_plan.specs.Numbering.{row_of}
use Rattle.machine_table.specs.Prelude.{answer}
use Rattle.body_meaning.specs.declared.frame.Known.{Known}
use Rattle.body_meaning.specs.declared.frame.Tried.TheVariants.{Fires}
use Rattle.body_meaning.specs.declared.thing.Trigger.{Trigger}
use Rattle.body_meaning.specs.Prelude.{Reading, about, ends, fired, is_stall_among, known, next_asked, next_state, run_scan, then_try, with_known}
use Rattle.body_code.specs.Prelude.{entry_kind, tbe_kind, transition_kinds}
use Rattle.body_code.specs.Programs.{asks_next, is_asked}
use Rattle.code_meaning.specs.declared.code_end.CodeEnd.TheVariants as code_end
use Rattle.code_meaning.specs.Prelude.{run_body}
use Rattle.action_gen.specs.Prelude.{DoesFire, InMachine, about_values, entered}
use Rattle.action_gen.specs.Carries.{AreTyped}
use Rattle.scan_steps.proofs.Tries.{after_part, scan-body, scan-then, with_stop}
use Rattle.compiled_protocol.specs.Prelude.{MachineCode, body_run, fire_note, last_state, row_goes_on, state_asked, state_entered}
use Rattle.compiled_protocol.proofs.Answered.{ask_same}
use Rattle.compiled_protocol.proofs.Asked.{body_as, known_then, stays_in, then_same}
use Rattle.compiled_protocol.proofs.Carried.{IsRunBy, same_arguments}
use Rattle.compiled_protocol.proofs.Firing.{answering, fired_answers}

-- with another answer
module _ {A B : Type 0} (k : Known) (y : B) where
  answers_with : (r : Result (Done A) Fault) → after_part (with_stop k r) (λ x w. run_scan (ends y) w) ≡ with_stop k (answering y r)
  unfolding run_scan
  answers_with (Ok d) = refl
  answers_with (Err f) = refl

or_with_true : (b : Bool) → (b || true) ≡ true
or_with_true true = refl
or_with_true false = refl

pub fourth : (x y z u v w : Kind) (a b : ℕ) → ◌≡◌ {A = List Kind} (x ∷ y ∷ z ∷ kind.Enum a 0 ∷ []) (u ∷ v ∷ w ∷ kind.Enum b 0 ∷ []) → a ≡ b
fourth x y z u v w a b same = cc same

-- where a transition has `*`
module _ (m : MachineSymbols) where
  asked_among : (ts : List TransitionSymbol) (place : ℕ) (row : TransitionSymbol) → slice_get ts place ≡ Some row → row.next ≡ Some Asked
      → list_any (λ (t : TransitionSymbol). is_asked t.next) ts ≡ true
  asked_among [] place row at into = absurd (cc at)
  asked_among (t ∷ ts) zero row at into =
      let first : t ≡ row = cc at in
      let asked : is_asked t.next ≡ true = ap (λ (x : TransitionSymbol). is_asked x.next) first ∙ ap is_asked into in
      ap (λ b. b || list_any (λ (x : TransitionSymbol). is_asked x.next) ts) asked
  asked_among (t ∷ ts) (suc place) row at into =
      ap (λ b. is_asked t.next || b) (asked_among ts place row at into) ∙ or_with_true (is_asked t.next)

module _ (trees : List Tree) (s : Reading) (c : MachineCode) (is : IsRunBy trees s c) (place : ℕ) (row : TransitionSymbol) (at : slice_get s.machine.transitions place ≡ Some row)
    (t : Trigger) (typed : AreTyped c.parts.program trees c.number s (about t)) (state : ℕ)
    (told : answer c.parts.tables c.number state t.event ≡ Some (row_of state t.event place row)) (not : is_stall_among row.actions s.machine.stall ≡ false) where
  abbrev k : Known
  k = known t (Some state)

  abbrev r : Row
  r = row_of state t.event place row

  abbrev does : DoesFire c.parts.program trees c.number s row (c.head.first + place)
  does = is.carries.fires place row at

  some_asked : row.next ≡ Some Asked → asks_next s.machine ≡ true
  some_asked into = asked_among s.machine s.machine.transitions place row at into

  fire_states : c.states ≡ s.machine.states
  fire_states =
      fourth kind.Addr is.entry is.tbe kind.Addr (entry_kind s) (tbe_kind s) c.states s.machine.states
      (same_arguments c.parts.program c.number (c.head.first + place) (kind.Addr ∷ is.entry ∷ is.tbe ∷ kind.Enum c.states 0 ∷ []) (transition_kinds s) None None
      (is.fires state t.event r told) does.body)

  -- with this as the last argument, and that as the state that is entered
  fire_as : (last next : ℕ) → entered row.next last ≡ next → (v : LocalView) → InMachine c.parts.program c.number v
      → run_scan (then_try (body_run c k (c.head.first + place) (about_values (about t) ++ value.Enum c.states last ∷ [])) (λ end. ends (Fires (fire_note t state next)))) v
      ≡ run_scan (with_known k (fired s t state next row)) v
  fire_as last next into v here =
      ap (λ n. run_scan (then_try (body_run c k (c.head.first + place) (about_values (about t) ++ value.Enum n last ∷ [])) (λ end. ends (Fires (fire_note t state next)))) v) fire_states
      ∙ body_as k (run_body c.parts.program (c.head.first + place) (about_values (about t) ++ value.Enum s.machine.states last ∷ []))
      (fired s t last next row) (λ x. code_end.Nothing) (λ x. refl) (λ end. ends (Fires (fire_note t state next))) v
      (subst (λ n. run (run_body c.parts.program (c.head.first + place) (about_values (about t) ++ value.Enum s.machine.states last ∷ [])) v ≡ run (fired s t last n row >>= (λ x. ends_body code_end.Nothing)) v) into
      (does.does not t last typed v here))
      ∙ scan-then (with_known k (fired s t last next row)) (λ x. ends (Fires (fire_note t state next))) v
      ∙ ap (λ o. after_part o (λ x w. run_scan (ends (Fires (fire_note t state next))) w)) (scan-body k (fired s t last next row) v)
      ∙ answers_with k (Fires (fire_note t state next)) (run (fired s t last next row) v)
      ∙ ap (with_stop k) (fired_answers s t last state next row v)
      ∙ sym (scan-body k (fired s t state next row) v)

  -- the state that is entered, and then the transition
  goes_case : (o : Option Next) → row.next ≡ o → (v : LocalView) → InMachine c.parts.program c.number v
      → run_scan (then_try (state_entered c t state (unwrap_or o (To state)))
      (λ next. then_try (body_run c k (c.head.first + place) (about_values (about t) ++ value.Enum c.states (last_state (unwrap_or o (To state)) state next) ∷ [])) (λ end. ends (Fires (fire_note t state next))))) v
      ≡ run_scan (with_known k (next_state s t.address state o >>= (λ next. fired s t state next row))) v
  unfolding then_try ◌>>=◌
  goes_case None into v here = fire_as state state (ap (λ o. entered o state) into) v here
  goes_case (Some (To n)) into v here = fire_as state n (ap (λ o. entered o state) into) v here
  goes_case (Some Asked) into v here =
      then_same (λ (x : ℕ) w. InMachine c.parts.program c.number w) (state_asked c t state c.head.asks) (with_known k (next_asked s t.address s.machine.get_next_state))
      (λ next. then_try (body_run c k (c.head.first + place) (about_values (about t) ++ value.Enum c.states next ∷ [])) (λ end. ends (Fires (fire_note t state next))))
      (λ next. with_known k (fired s t state next row))
      (λ next w holds. fire_as next next (ap (λ o. entered o next) into) w holds)
      v (ask_same trees s c is (some_asked into) t state v here)
      (stays_in c.parts.program c.number (with_known k (next_asked s t.address s.machine.get_next_state)) v here)
      ∙ sym (known_then k (next_asked s t.address s.machine.get_next_state) (λ next. fired s t state next row) v)

  pub goes_same : (v : LocalView) → InMachine c.parts.program c.number v
      → run_scan (row_goes_on c t state r) v ≡ run_scan (with_known k (next_state s t.address state row.next >>= (λ next. fired s t state next row))) v
  goes_same v here = goes_case row.next refl v here
