-- Acts as events of worker 0: it takes the controller, fires or ends the wake-up, and gives the controller back after it fired. So each act in
-- a world of a run leads to a world of a run.
use Rattle.std.proofs.Common.{◌≡◌, ◌++◌, ◌&&◌, ◌+◌, ℕ, Bool, true, false, not, Option, None, Some, List, [], ◌∷◌, is_none, length, refl, sym, ◌∙◌, ap, subst, slice_get, slice_set}
use Rattle.std.proofs.lemmas.List.{append-nil, append_assoc, set-set}
use Rattle.ruby_value.specs.declared.message.Delivery.{Delivery}
use Rattle.run_journal.specs.declared.entry.End.{End}
use Rattle.run_journal.specs.declared.entry.End.TheVariants as end
use Rattle.run_journal.specs.declared.entry.Entry.{Entry}
use Rattle.run_journal.specs.declared.entry.Entry.TheVariants as entry
use Rattle.run_journal.specs.declared.entry.FireNote.{FireNote}
use Rattle.run_journal.specs.declared.event.Event.{Event}
use Rattle.run_journal.specs.declared.event.Event.TheVariants.{Done, Fire, Release, Take}
use Rattle.cycle_order.specs.Prelude.{is_turned, owner}
use Rattle.protocol_runs.specs.Prelude.{Acts, EndedBy, Ends, Filled, Fired, FiredBy, Full, Halted, Idle, Idled, IsRun, Moved, Moves, Outcome, Place, Released, Rules, Stepped, Stop, Taken, World, fired_entry, given_back, held_by, held_by_nobody, is_free, must_wake, with_controller, with_deliveries, with_moved}
use Rattle.protocol_runs.proofs.HeldGrow.{deliveries-at}
use Rattle.protocol_runs.proofs.HeldSteps.{set-here}
use Rattle.protocol_runs.proofs.Runs.{run-more}
use Rattle.protocol_runs.proofs.Steps.{change-steps}
use Rattle.schedule_laws.specs.Prelude.{act_events, acted, acted_by, entry_by}
use Rattle.schedule_laws.proofs.Delivered.{come-at, set-there, set-through}

is-none : {X : Type 0} (o : Option X) → is_none o ≡ true → o ≡ None
is-none None is = refl
is-none (Some x) is = absurd (cc is)

both-true : (a b : Bool) → (a && b) ≡ true → (a ≡ true) × (b ≡ true)
both-true true b is = (refl, is)
both-true false b is = absurd (cc is)

not-finished : (b : Bool) → not b ≡ true → b ≡ false
not-finished false is = refl
not-finished true is = absurd (cc is)

module _ {C M D : Type 0} (r : Rules C M D) where
  -- a controller that is due and that nobody holds
  pub record IsFree (now : ℕ) (p : Place C) : Type 0 where
    pub awake : must_wake r now p ≡ true
    pub finished : p.finished ≡ false
    pub holder : p.holder ≡ None

  pub free-parts : (now : ℕ) (p : Place C) → is_free r now p ≡ true → IsFree now p
  free-parts now p free =
      let first = both-true (must_wake r now p && not p.finished) (is_none p.holder) free in
      let due = both-true (must_wake r now p) (not p.finished) first.0 in
      record { awake = due.0; finished = not-finished p.finished due.1; holder = is-none p.holder first.1 }

  pub free-is : (now : ℕ) (p : Place C) → IsFree now p → is_free r now p ≡ true
  free-is now p is =
      ap (λ (b : Bool). (b && not p.finished) && is_none p.holder) is.awake
      ∙ ap (λ (b : Bool). (true && not b) && is_none p.holder) is.finished ∙ ap (λ (o : Option ℕ). is_none o) is.holder

  pub entry-owner : (now c : ℕ) (o : Outcome C M) → owner (entry_by r now c o) ≡ c
  entry-owner now c (Fired note acts copies after) = refl
  entry-owner now c Full = refl
  entry-owner now c (Stop at) = refl
  entry-owner now c (Idle after) = refl

  pub entry-quiet : (now c : ℕ) (o : Outcome C M) → is_turned (entry_by r now c o) ≡ false
  entry-quiet now c (Fired note acts copies after) = refl
  entry-quiet now c Full = refl
  entry-quiet now c (Stop at) = refl
  entry-quiet now c (Idle after) = refl

  -- the world in which worker 0 holds the controller
  abbrev pub taken : World C D → ℕ → Place C → World C D
  taken w c p = record w { places = slice_set w.places c (held_by 0 p) }

  abbrev pub fired-place : Place C → C → Place C
  fired-place p after = with_controller p (r.with_one_fired after)

  module _ (history : List Event) (w : World C D) (journal : List Entry) (running : w.verdict ≡ None) (c : ℕ) (p : Place C) (there : slice_get w.places c ≡ Some p) where
    pub take-run : IsRun r history w journal → is_free r w.now p ≡ true → IsRun r (history ++ Take 0 c ∷ []) (taken w c p) journal
    take-run is free =
        let m : Moved C M = record { place = held_by 0 p; copies = []; entry = None } in
        let st : Stepped C D = record { world = taken w c p; entry = None } in
        subst (λ (l : List Entry). IsRun r (history ++ Take 0 c ∷ []) (taken w c p) l) (append-nil journal)
        (run-more r history (Take 0 c) w journal st is
        (change-steps r (length journal) w (Take 0 c) st running (Moves c p (Take 0 c) m there (Taken 0 free))))

    held-there : slice_get (taken w c p).places c ≡ Some (held_by 0 p)
    held-there = set-here w.places c p (held_by 0 p) there

    pub fire-run : (note : FireNote) (acts : Acts) (copies : List (Delivery M)) (after : C) → IsRun r history (taken w c p) journal
        → (r.scan c p.controller w.now).outcome ≡ Fired note acts copies after
        → IsRun r (history ++ Fire 0 c ∷ []) (taken (acted_by r w c p (Fired note acts copies after)) c (come-at r copies c (fired-place p after)))
        (journal ++ fired_entry w.now c note acts ∷ [])
    fire-run note acts copies after is scanned =
        let q : Place C = fired-place p after in
        let m : Moved C M = record { place = held_by 0 q; copies = copies; entry = Some (fired_entry w.now c note acts) } in
        let st : Stepped C D = record { world = with_moved r (taken w c p) c m; entry = m.entry } in
        let places : with_deliveries r (slice_set (slice_set w.places c (held_by 0 p)) c (held_by 0 q)) copies
        ≡ slice_set (with_deliveries r (slice_set w.places c q) copies) c (held_by 0 (come-at r copies c q)) =
        ap (λ (l : List (Place C)). with_deliveries r l copies) (set-set w.places c (held_by 0 p) (held_by 0 q) ∙ sym (set-set w.places c q (held_by 0 q)))
        ∙ sym (set-through r (slice_set w.places c q) c q (held_by 0 q) copies (set-here w.places c p q there)) in
        subst (λ (l : List (Place C)). IsRun r (history ++ Fire 0 c ∷ []) (record w { places = l }) (journal ++ fired_entry w.now c note acts ∷ [])) places
        (run-more r history (Fire 0 c) (taken w c p) journal st is
        (change-steps r (length journal) (taken w c p) (Fire 0 c) st running
        (Moves c (held_by 0 p) (Fire 0 c) m held-there (FiredBy 0 note acts copies after refl scanned))))

    pub done-run : (after : C) (e : End) → IsRun r history (taken w c p) journal → Ends r c w.now p.controller after e
        → IsRun r (history ++ Done 0 c ∷ []) (with_moved r w c (given_back r w.now c after e)) (journal ++ entry.Ended w.now c e ∷ [])
    done-run after e is ends =
        let m : Moved C M = given_back r w.now c after e in
        let st : Stepped C D = record { world = with_moved r (taken w c p) c m; entry = m.entry } in
        subst (λ (l : List (Place C)). IsRun r (history ++ Done 0 c ∷ []) (record w { places = l }) (journal ++ entry.Ended w.now c e ∷ []))
        (set-set w.places c (held_by 0 p) m.place)
        (run-more r history (Done 0 c) (taken w c p) journal st is
        (change-steps r (length journal) (taken w c p) (Done 0 c) st running
        (Moves c (held_by 0 p) (Done 0 c) m held-there (EndedBy 0 after e refl ends))))

    pub release-run : IsRun r history (taken w c p) journal → p.holder ≡ None → IsRun r (history ++ Release 0 c ∷ []) w journal
    release-run is none =
        let m : Moved C M = record { place = held_by_nobody p; copies = []; entry = None } in
        let st : Stepped C D = record { world = with_moved r (taken w c p) c m; entry = None } in
        let own : held_by_nobody p ≡ p = ap (λ (o : Option ℕ). let q : Place C = record p { holder = o } in q) (sym none) in
        let places : slice_set (slice_set w.places c (held_by 0 p)) c (held_by_nobody p) ≡ w.places =
        set-set w.places c (held_by 0 p) (held_by_nobody p) ∙ ap (λ (q : Place C). slice_set w.places c q) own ∙ set-there w.places c p there in
        subst (λ (l : List (Place C)). IsRun r (history ++ Release 0 c ∷ []) (record w { places = l }) journal) places
        (subst (λ (l : List Entry). IsRun r (history ++ Release 0 c ∷ []) st.world l) (append-nil journal)
        (run-more r history (Release 0 c) (taken w c p) journal st is
        (change-steps r (length journal) (taken w c p) (Release 0 c) st running
        (Moves c (held_by 0 p) (Release 0 c) m held-there (Released 0 refl)))))

  -- a world of a run that goes on
  pub record Reached (w : World C D) : Type 0 where
    pub history : List Event
    pub journal : List Entry
    pub is : IsRun r history w journal
    pub running : w.verdict ≡ None

  module _ (w : World C D) (c : ℕ) (p : Place C) (reached : Reached w) (there : slice_get w.places c ≡ Some p) (free : is_free r w.now p ≡ true) where
    pub taken-reached : Reached (taken w c p)
    taken-reached = record {
      history = reached.history ++ Take 0 c ∷ [];
      journal = reached.journal;
      is = take-run reached.history w reached.journal reached.running c p there reached.is free;
      running = reached.running;
    }

    abbrev pub AfterAct : Outcome C M → Type 0
    AfterAct o = IsRun r (reached.history ++ act_events r 0 c o) (acted_by r w c p o) (reached.journal ++ entry_by r w.now c o ∷ [])

    ended-run : (after : C) (e : End) → Ends r c w.now p.controller after e
        → IsRun r (reached.history ++ Take 0 c ∷ Done 0 c ∷ []) (with_moved r w c (given_back r w.now c after e)) (reached.journal ++ entry.Ended w.now c e ∷ [])
    unfolding taken-reached
    ended-run after e ends =
        let held = taken-reached in
        subst (λ (h : List Event). IsRun r h (with_moved r w c (given_back r w.now c after e)) (reached.journal ++ entry.Ended w.now c e ∷ []))
        (append_assoc reached.history (Take 0 c ∷ []) (Done 0 c ∷ []))
        (done-run held.history w held.journal reached.running c p there after e held.is ends)

    outcome-run : (o : Outcome C M) → (r.scan c p.controller w.now).outcome ≡ o → AfterAct o
    unfolding taken-reached
    outcome-run (Fired note acts copies after) is =
        let held = taken-reached in
        let q : Place C = fired-place p after in
        let v : World C D = acted_by r w c p (Fired note acts copies after) in
        let told : List Entry = reached.journal ++ fired_entry w.now c note acts ∷ [] in
        let fires = fire-run held.history w held.journal reached.running c p there note acts copies after held.is is in
        let here : slice_get v.places c ≡ Some (come-at r copies c q) = deliveries-at r c (slice_set w.places c q) copies q (set-here w.places c p q there) in
        let parts = free-parts w.now p free in
        let whole : ((reached.history ++ Take 0 c ∷ []) ++ Fire 0 c ∷ []) ++ Release 0 c ∷ [] ≡ reached.history ++ Take 0 c ∷ Fire 0 c ∷ Release 0 c ∷ [] =
        append_assoc (reached.history ++ Take 0 c ∷ []) (Fire 0 c ∷ []) (Release 0 c ∷ []) ∙ append_assoc reached.history (Take 0 c ∷ []) (Fire 0 c ∷ Release 0 c ∷ []) in
        subst (λ (h : List Event). IsRun r h v told) whole
        (release-run (held.history ++ Fire 0 c ∷ []) v told reached.running c (come-at r copies c q) here fires parts.holder)
    outcome-run Full is = ended-run (r.with_mark p.controller (w.now + 1)) end.Full (Filled is)
    outcome-run (Stop at) is = ended-run (r.with_stop p.controller at) (end.Stop at) (Halted at is)
    outcome-run (Idle after) is = ended-run after end.Idle (Idled after is)

    pub by-outcome : (o : Outcome C M) → (r.scan c p.controller w.now).outcome ≡ o → Reached (acted_by r w c p o)
    by-outcome o is = record {
      history = reached.history ++ act_events r 0 c o;
      journal = reached.journal ++ entry_by r w.now c o ∷ [];
      is = outcome-run o is;
      running = reached.running;
    }

    pub act-run : AfterAct (r.scan c p.controller w.now).outcome
    act-run = outcome-run (r.scan c p.controller w.now).outcome refl

    pub act-reached : Reached (acted r w c p)
    act-reached = by-outcome (r.scan c p.controller w.now).outcome refl
