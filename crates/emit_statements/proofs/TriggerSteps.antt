-- The code of a `trigger` by an expression: one event after another.
use Rattle.std.proofs.Common.{◌≡◌, ◌∙◌, ◌++◌, ◌∷◌, ◌+◌, ◌-◌, ◌<◌, ◌≤◌, ℕ, suc, Bool, true, false, Option, None, Some, List, [], Result, Ok, Err, get_or, length, refl, ap, subst, arith}
use Rattle.std.specs.Prelude.{if◌then◌else◌, is_some, slice_get}
use Rattle.std.specs.Result.{OnOk}
use Rattle.std.proofs.lemmas.Result.{on_ok_weaker}
use Rattle.slicc_ast.specs.declared.tree.expression.Expr.{Expr}
use Rattle.ruby_base.specs.declared.memory.NoMemory.{NoMemory}
use Rattle.ruby_value.specs.declared.kind.Kind.{Kind}
use Rattle.ruby_value.specs.declared.kind.Kind.TheVariants as kind
use Rattle.body_meaning.specs.Prelude.{Reading}
use Rattle.body_code.specs.declared.numbers.BodyNumbers.{BodyNumbers}
use Rattle.body_code.specs.declared.own.Locals.{Locals}
use Rattle.body_code.specs.declared.own.Own.{Own}
use Rattle.std.proofs.lemmas.List.{append_assoc, length-append}
use Rattle.ruby_value.specs.declared.value.Value.TheVariants as value
use Rattle.action_code.specs.declared.instr.Instr.{Instr}
use Rattle.action_code.specs.declared.instr.Instr.TheVariants as instr
use Rattle.body_code.specs.Prelude.{Ending, Segment, entry_kind, triggered, just, piece, scratch_for, tbe_kind, ◌⨾◌}
use Rattle.body_code.specs.Statements.{about_triggered, event_chosen, event_of, member_count, optional, reference_written, triggered_by}
use Rattle.emit_expressions.specs.Prelude.{Adds, AddsIfOk}
use Rattle.emit_expressions.proofs.Adding.{added, adds_then, none_said}
use Rattle.emit_statements.specs.Prelude.{WritesLine}
use Rattle.emit_statements.proofs.Following.{line_wrote, with_these}

module _ (events slot : ℕ) where
  abbrev tested : (number place : ℕ) → List Instr
  tested number place = instr.Load slot ∷ instr.Push (value.Enum events number) 0 ∷ instr.Eq ∷ instr.Unless place ∷ instr.Trigger number ∷ []

  one_event : (more number : ℕ) (old mid new : List Instr)
      → mid ≡ old ++ instr.Load slot ∷ instr.Push (value.Enum events number) 0 ∷ instr.Eq ∷ instr.Unless (length old + 5) ∷ instr.Trigger number ∷ []
      → Adds (event_chosen events slot more (number + 1)) mid new → Adds (event_chosen events slot (suc more) number) old new
  one_event more number old mid new first rest =
      let b : Segment = event_chosen events slot more (number + 1) in
      let long : length mid ≡ length old + 5 = ap length first ∙ length-append old (tested number (length old + 5)) in
      let place : length old + 5 ≡ length old + 3 + 1 + 1 = omega arith in
      rest
      ∙ ap (λ (n : ℕ). mid ++ b n) long
      ∙ ap (λ (xs : List Instr). xs ++ b (length old + 5)) first
      ∙ append_assoc old (tested number (length old + 5)) (b (length old + 5))
      ∙ ap (λ (n : ℕ). old ++ instr.Load slot ∷ instr.Push (value.Enum events number) 0 ∷ instr.Eq ∷ instr.Unless n ∷ instr.Trigger number ∷ b n) place

  -- what is left, written from here on, writes the whole
  abbrev pub EventsLead : (more number : ℕ) → List Instr → Segment → List Instr → Type 0
  EventsLead more number mid whole old = (new : List Instr) → Adds (event_chosen events slot more number) mid new → Adds whole old new

  pub events_more : (count k number : ℕ) (whole : Segment) (old mid later : List Instr) → k < count → number ≡ k
      → later ≡ mid ++ instr.Load slot ∷ instr.Push (value.Enum events number) 0 ∷ instr.Eq ∷ instr.Unless (length mid + 5) ∷ instr.Trigger number ∷ []
      → EventsLead (count - k) k mid whole old → EventsLead (count - (k + 1)) (k + 1) later whole old
  events_more count k number whole old mid later below same first kept = λ new rest.
      let left : suc (count - (k + 1)) ≡ count - k = omega arith in
      kept new
      (subst (λ (m : ℕ). Adds (event_chosen events slot m k) mid new) left
      (one_event (count - (k + 1)) k mid later new
      (first ∙ ap (λ (m : ℕ). mid ++ instr.Load slot ∷ instr.Push (value.Enum events m) 0 ∷ instr.Eq ∷ instr.Unless (length mid + 5) ∷ instr.Trigger m ∷ []) same)
      rest))

  pub events_end : (count k : ℕ) (whole : Segment) (old mid new : List Instr) → count ≤ k → new ≡ mid ++ instr.Trigger 0 ∷ []
      → EventsLead (count - k) k mid whole old → Adds whole old new
  events_end count k whole old mid new past last kept =
      let none : 0 ≡ count - k = omega arith in
      kept new (subst (λ (m : ℕ). Adds (event_chosen events slot m k) mid new) none last)

  pub events_last : {A : Type 0} (count k : ℕ) (whole : Segment) (old mid new : List Instr) (result : Result A NoMemory) → count ≤ k → OnOk result (new ≡ mid ++ instr.Trigger 0 ∷ [])
      → EventsLead (count - k) k mid whole old → AddsIfOk whole result old new
  events_last count k whole old mid new (Err e) past last kept = none_said _ whole e old new
  events_last count k whole old mid new (Ok x) past last kept = added whole x old new (events_end count k whole old mid new past last kept)

-- a test, and the trigger behind it
pub tested_parts : {A : Type 0} (a b c t : Instr) (old mid new : List Instr) (result : Result A NoMemory) → mid ≡ old ++ a ∷ b ∷ c ∷ []
    → OnOk result (new ≡ mid ++ instr.Unless (length mid + 2) ∷ t ∷ []) → OnOk result (new ≡ old ++ a ∷ b ∷ c ∷ instr.Unless (length old + 5) ∷ t ∷ [])
tested_parts a b c t old mid new result first second =
    let long : length mid ≡ length old + 3 = ap length first ∙ length-append old (a ∷ b ∷ c ∷ []) in
    let place : length mid + 2 ≡ length old + 5 = omega arith in
    on_ok_weaker result (λ h.
    h ∙ ap (λ (n : ℕ). mid ++ instr.Unless n ∷ t ∷ []) place ∙ ap (λ (xs : List Instr). xs ++ instr.Unless (length old + 5) ∷ t ∷ []) first
    ∙ append_assoc old (a ∷ b ∷ c ∷ []) (instr.Unless (length old + 5) ∷ t ∷ [])) second

module _ (s : Reading) (n : BodyNumbers) (ending : Ending) (given : List Expr) (own : Own) where
  abbrev about_by : Option Expr → Bool → Kind → Option Expr → Bool → Kind → Option Expr → Segment
  about_by address has_entry entry first has_tbe tbe second =
      optional s n ending address own ⨾ reference_written s n ending has_entry entry first own ⨾ reference_written s n ending has_tbe tbe second own

  pub about_is : (address first second : Option Expr) (has_entry has_tbe : Bool) (entry tbe : Kind) (place : ℕ)
      → address ≡ slice_get given 1 → has_entry ≡ is_some s.machine.entry → entry ≡ entry_kind s → first ≡ slice_get given 2
      → has_tbe ≡ is_some s.machine.tbe → tbe ≡ tbe_kind s → place ≡ (if has_entry then 3 else 2) → second ≡ slice_get given place
      → optional s n ending address own ⨾ reference_written s n ending has_entry entry first own ⨾ reference_written s n ending has_tbe tbe second own
      ≡ about_triggered s n ending given own
  about_is address first second has_entry has_tbe entry tbe place address_is he entry_is first_is ht tbe_is place_is second_is =
      ap (λ (x : Option Expr). about_by x has_entry entry first has_tbe tbe second) address_is
      ∙ ap (λ (x : Option Expr). about_by (slice_get given 1) has_entry entry x has_tbe tbe second) first_is
      ∙ ap (λ (x : Option Expr). about_by (slice_get given 1) has_entry entry (slice_get given 2) has_tbe tbe x) (second_is ∙ ap (slice_get given) place_is)
      ∙ ap (λ (b : Bool). about_by (slice_get given 1) b entry (slice_get given 2) has_tbe tbe (slice_get given (if b then 3 else 2))) he
      ∙ ap (λ (k : Kind). about_by (slice_get given 1) (is_some s.machine.entry) k (slice_get given 2) has_tbe tbe (slice_get given (if is_some s.machine.entry then 3 else 2))) entry_is
      ∙ ap (λ (b : Bool). about_by (slice_get given 1) (is_some s.machine.entry) (entry_kind s) (slice_get given 2) b tbe (slice_get given (if is_some s.machine.entry then 3 else 2))) ht
      ∙ ap (λ (k : Kind). about_by (slice_get given 1) (is_some s.machine.entry) (entry_kind s) (slice_get given 2) (is_some s.machine.tbe) k (slice_get given (if is_some s.machine.entry then 3 else 2))) tbe_is

  pub value_triggered : (e : Expr) (locals : Locals) (x count : ℕ) (c0 c1 c2 c3 c4 : List Instr)
      → x ≡ (scratch_for (kind.Enum s.machine.events 0) own.locals).slot → locals ≡ (scratch_for (kind.Enum s.machine.events 0) own.locals).locals
      → count ≡ member_count (slice_get s.symbols.enumerations s.machine.events)
      → Adds (piece s n own.names None e).code c0 c1 → c2 ≡ c1 ++ instr.Store x ∷ [] → Adds (about_triggered s n ending given own) c2 c3 → Adds (event_chosen s.machine.events x (count - 1) 1) c3 c4
      → WritesLine (triggered_by s n ending e (about_triggered s n ending given own) own None) (Ok false) c0 c4 (record { names = own.names; locals = locals })
  value_triggered e locals x count c0 c1 c2 c3 c4 slot_is locals_are count_is first second third fourth =
      let slot : ℕ = (scratch_for (kind.Enum s.machine.events 0) own.locals).slot in
      let about : Segment = about_triggered s n ending given own in
      line_wrote (triggered_by s n ending e about own None) false c0 c4 (record { names = own.names; locals = locals }) refl (with_these own.names locals _ locals_are)
      (adds_then c0 c3 c4 ((piece s n own.names None e).code ⨾ just (instr.Store slot ∷ []) ⨾ about)
      (event_chosen s.machine.events slot (member_count (slice_get s.symbols.enumerations s.machine.events) - 1) 1)
      (adds_then c0 c2 c3 ((piece s n own.names None e).code ⨾ just (instr.Store slot ∷ [])) about
      (adds_then c0 c1 c2 (piece s n own.names None e).code (just (instr.Store slot ∷ [])) first (second ∙ ap (λ (y : ℕ). c1 ++ instr.Store y ∷ []) slot_is)) third)
      (fourth ∙ ap (λ (y : ℕ). c3 ++ event_chosen s.machine.events y (count - 1) 1 (length c3)) slot_is
      ∙ ap (λ (m : ℕ). c3 ++ event_chosen s.machine.events slot (m - 1) 1 (length c3)) count_is))

module _ (s : Reading) (n : BodyNumbers) (ending : Ending) where
  pub triggered_is : (given : List Expr) (own : Own) (e : Expr) (event : Option ℕ) → 1 ≤ length given → e ≡ get_or given 0 e → event ≡ event_of s e
      → triggered_by s n ending e (about_triggered s n ending given own) own event ≡ triggered s n ending given own
  triggered_is [] own e event long is there = absurd (omega arith)
  triggered_is (x ∷ xs) own e event long is there =
      ap (λ (o : Option ℕ). triggered_by s n ending e (about_triggered s n ending (x ∷ xs) own) own o) there
      ∙ ap (λ (y : Expr). triggered_by s n ending y (about_triggered s n ending (x ∷ xs) own) own (event_of s y)) is

  -- it names what a body has, and no locals of its own
  module _ (own : Own) (locals : Locals) where
    optional_same : (e : Option Expr) → optional s n ending e (record { names = own.names; locals = locals }) ≡ optional s n ending e own
    optional_same None = refl
    optional_same (Some e) = refl

    reference_same : (is_there : Bool) (k : Kind) (e : Option Expr) → reference_written s n ending is_there k e (record { names = own.names; locals = locals }) ≡ reference_written s n ending is_there k e own
    reference_same true k None = refl
    reference_same true k (Some e) = refl
    reference_same false k None = refl
    reference_same false k (Some e) = refl

    pub about_same : (given : List Expr) → about_triggered s n ending given (record { names = own.names; locals = locals }) ≡ about_triggered s n ending given own
    about_same given =
        let one : Segment = optional s n ending (slice_get given 1) (record { names = own.names; locals = locals }) in
        let two : Segment = reference_written s n ending (is_some s.machine.entry) (entry_kind s) (slice_get given 2) (record { names = own.names; locals = locals }) in
        let place : ℕ = if is_some s.machine.entry then 3 else 2 in
        ap (λ (c : Segment). one ⨾ two ⨾ c) (reference_same (is_some s.machine.tbe) (tbe_kind s) (slice_get given place))
        ∙ ap (λ (c : Segment). one ⨾ c ⨾ reference_written s n ending (is_some s.machine.tbe) (tbe_kind s) (slice_get given place) own) (reference_same (is_some s.machine.entry) (entry_kind s) (slice_get given 2))
        ∙ ap (λ (c : Segment). c ⨾ reference_written s n ending (is_some s.machine.entry) (entry_kind s) (slice_get given 2) own ⨾ reference_written s n ending (is_some s.machine.tbe) (tbe_kind s) (slice_get given place) own) (optional_same (slice_get given 1))
