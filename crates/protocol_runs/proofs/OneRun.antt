-- One worker makes one run: in each world there is one thing that it does.
use Rattle.std.proofs.Common.{◌≡◌, ◌⊎◌, inl, inr, ⊎_elim, ◌++◌, ◌||◌, ℕ, Bool, true, false, Option, None, Some, List, [], ◌∷◌, length, refl, sym, ◌∙◌, ap, subst, cond, slice_get, slice_set, is_some, position, get_or, arith}
use Rattle.std.specs.List.{list_any}
use Rattle.std.specs.Option.{option_to_list}
use Rattle.std.proofs.lemmas.Bool.{or_parts}
use Rattle.std.proofs.lemmas.List.{append_assoc}
use Rattle.std.proofs.lemmas.List.Folds.{list_any_at}
use Rattle.std.proofs.lemmas.List.Quantifiers.{position-Some}
use Rattle.std.proofs.lemmas.Option.{same_Some}
use Rattle.run_journal.specs.declared.entry.End.{End}
use Rattle.run_journal.specs.declared.entry.Entry.{Entry}
use Rattle.run_journal.specs.declared.event.Event.{Event}
use Rattle.run_journal.specs.declared.event.Event.TheVariants.{Take, Fire, Done, Turn}
use Rattle.protocol_runs.specs.Prelude.{Rules, Outcome, Place, World, is_due, is_free, is_held, opening, Stepped, Moved, is_busy, with_moved, step, Ran, IsRun, HasEnded, start, IsAloneEvent, IsAlone, Ends, Idled, Filled, Halted, Move, Taken, FiredBy, EndedBy, Released, IsIdle, Change, Moves, Closes, Turns, IsSound}
use Rattle.protocol_runs.proofs.Runs.{Path, with_step, headed, run-path, run-more}
use Rattle.protocol_runs.proofs.Places.{set-at, paired-back, IsLater}
use Rattle.protocol_runs.proofs.Fitting.{moved-grown, WorldFits, change-fits, opening-fits}
use Rattle.protocol_runs.proofs.Woken.{none-at, AreCleared, turn-clears, opening-cleared}
use Rattle.protocol_runs.proofs.Invalid.{is_fired}

-- where nobody is busy, nobody is held
nobody-held : {C M D : Type 0} (r : Rules C M D) (now : ℕ) (places : List (Place C)) → list_any (is_busy r now) places ≡ false → list_any is_held places ≡ false
nobody-held r now [] none = refl
nobody-held r now (p ∷ places) none =
    let parts = or_parts (is_busy r now p) (list_any (is_busy r now) places) none in
    let held = or_parts (is_held p) (is_due r now p) parts.0 in
    ap (λ (b : Bool). b || list_any is_held places) held.0 ∙ nobody-held r now places parts.1

free-busy : {C M D : Type 0} (r : Rules C M D) (now : ℕ) (p : Place C) → is_free r now p ≡ true → is_busy r now p ≡ true
free-busy r now p free = grind (arith, free)

-- and nobody is free
none-free : {C M D : Type 0} (r : Rules C M D) (now : ℕ) (places : List (Place C)) (o : Option ℕ) → position (is_free r now) places ≡ o
    → list_any (is_busy r now) places ≡ false → o ≡ None
none-free r now places None is idle = refl
none-free r now [] (Some i) is idle = absurd (cc is)
none-free r now (q ∷ places) (Some i) is idle =
    let found = position-Some (is_free r now) (q ∷ places) i q is in
    let busy = list_any_at (is_busy r now) (q ∷ places) i q found.0 (free-busy r now (get_or (q ∷ places) i q) found.1) in
    absurd (cc (idle, busy))

abbrev resting : Option ℕ → Event
resting None = Turn 0
resting (Some c) = Take 0 c

module _ {C M D : Type 0} (r : Rules C M D) where
  -- somebody holds the controller with this number
  record IsHeldAt (w : World C D) (c : ℕ) : Type 0 where
    place : Place C
    there : slice_get w.places c ≡ Some place
    held : is_held place ≡ true

  -- while no verdict stands, one controller is held at most
  abbrev IsSingle : World C D → Type 0
  IsSingle w = w.verdict ≡ None → (c d : ℕ) → IsHeldAt w c → IsHeldAt w d → c ≡ d

  -- what the one worker does: with the controller that it holds, or where it holds none
  record IsWorking (w : World C D) (e : Event) : Type 0 where
    controller : ℕ
    place : Place C
    there : slice_get w.places controller ≡ Some place
    held : is_held place ≡ true
    is : e ≡ cond (is_fired (r.scan controller place.controller w.now).outcome) (Fire 0 controller) (Done 0 controller)

  record IsResting (w : World C D) (e : Event) : Type 0 where
    nobody : list_any is_held w.places ≡ false
    is : e ≡ resting (position (is_free r w.now) w.places)

  ends-not : (c now : ℕ) (x after : C) (e : End) → Ends r c now x after e → is_fired (r.scan c x now).outcome ≡ false
  ends-not c now x after e (Idled y is) = ap (λ (o : Outcome C M). is_fired o) is
  ends-not c now x after e (Filled is) = ap (λ (o : Outcome C M). is_fired o) is
  ends-not c now x after e (Halted at is) = ap (λ (o : Outcome C M). is_fired o) is

  move-doing : (w : World C D) (c : ℕ) (p : Place C) (e : Event) (m : Moved C M) → slice_get w.places c ≡ Some p → Move r w.now c p e m → IsAloneEvent r w e
      → IsWorking w e ⊎ IsResting w e
  move-doing w c p e m there (Taken worker free) alone =
      inr (record { nobody = alone.nobody; is = ap (λ (k : ℕ). Take k c) alone.worker_0 ∙ ap resting (sym alone.least) })
  move-doing w c p e m there (FiredBy worker note acts copies after holds is) alone =
      let fires : is_fired (r.scan c p.controller w.now).outcome ≡ true = ap (λ (o : Outcome C M). is_fired o) is in
      inl (record {
        controller = c;
        place = p;
        there = there;
        held = ap (λ (o : Option ℕ). is_some o) holds;
        is = ap (λ (k : ℕ). Fire k c) alone ∙ ap (λ (b : Bool). cond b (Fire 0 c) (Done 0 c)) (sym fires);
      })
  move-doing w c p e m there (EndedBy worker after end holds ends) alone =
      inl (record {
        controller = c;
        place = p;
        there = there;
        held = ap (λ (o : Option ℕ). is_some o) holds;
        is = ap (λ (k : ℕ). Done k c) alone
            ∙ ap (λ (b : Bool). cond b (Fire 0 c) (Done 0 c)) (sym (ends-not c w.now p.controller after end ends));
      })
  move-doing w c p e m there (Released worker holds) alone = absurd alone

  turn-rests : (w : World C D) (worker : ℕ) → IsIdle r w → worker ≡ 0 → IsWorking w (Turn worker) ⊎ IsResting w (Turn worker)
  turn-rests w worker idle alone =
      let free = none-free r w.now w.places (position (is_free r w.now) w.places) refl idle in
      inr (record { nobody = nobody-held r w.now w.places idle; is = ap (λ (k : ℕ). Turn k) alone ∙ ap resting (sym free) })

  doing : (n : ℕ) (w : World C D) (e : Event) (st : Stepped C D) → Change r n w e st → IsAloneEvent r w e → IsWorking w e ⊎ IsResting w e
  doing n w e st (Moves c p f m there move) alone = move-doing w c p e m there move alone
  doing n w e st (Closes worker c idle least) alone = turn-rests w worker idle alone
  doing n w e st (Turns worker idle least) alone = turn-rests w worker idle alone

  -- and so it does one thing
  same-event : (w : World C D) (e f : Event) → w.verdict ≡ None → IsSingle w → IsWorking w e ⊎ IsResting w e → IsWorking w f ⊎ IsResting w f → e ≡ f
  same-event w e f running single (inl one) (inl other) =
      let same =
      single running one.controller other.controller
      (record { place = one.place; there = one.there; held = one.held })
      (record { place = other.place; there = other.there; held = other.held }) in
      let place : one.place ≡ other.place = same_Some one.place other.place (sym one.there ∙ ap (λ (i : ℕ). slice_get w.places i) same ∙ other.there) in
      let does : ℕ → Place C → Event = λ c p. cond (is_fired (r.scan c p.controller w.now).outcome) (Fire 0 c) (Done 0 c) in
      one.is ∙ ap (λ (i : ℕ). does i one.place) same ∙ ap (λ (p : Place C). does other.controller p) place ∙ sym other.is
  same-event w e f running single (inl one) (inr other) = absurd (cc (none-at is_held w.places one.controller one.place other.nobody one.there, one.held))
  same-event w e f running single (inr one) (inl other) = absurd (cc (none-at is_held w.places other.controller other.place one.nobody other.there, other.held))
  same-event w e f running single (inr one) (inr other) = one.is ∙ sym other.is

  -- one place changes, and messages come: who is held then is this one, or was held before
  set-held : (w : World C D) (c i : ℕ) (p q t : Place C) → slice_get w.places c ≡ Some p → slice_get (slice_set w.places c q) i ≡ Some t → is_held t ≡ true
      → ((c ≡ i) × (is_held q ≡ true)) ⊎ IsHeldAt w i
  set-held w c i p q t there is held =
      set-at (λ (o : Option (Place C)). o ≡ Some t → ((c ≡ i) × (is_held q ≡ true)) ⊎ IsHeldAt w i) w.places c i p q there
      (λ same at. inl (same, ap (λ (x : Place C). is_held x) (same_Some q t at) ∙ held))
      (λ apart at. inr (record { place = t; there = at; held = held }))
      is

  was-held : (w v : World C D) (c : ℕ) (p q : Place C) → slice_get w.places c ≡ Some p → (is_held q ≡ true → is_held p ≡ true)
      → ((i : ℕ) → IsHeldAt v i → ((c ≡ i) × (is_held q ≡ true)) ⊎ IsHeldAt w i) → (k : ℕ) → IsHeldAt v k → IsHeldAt w k
  was-held w v c p q there keeps back k held =
      ⊎_elim (λ is. subst (IsHeldAt w) is.0 (record { place = p; there = there; held = keeps is.1 })) (λ before. before) (back k held)

  move-single : (w v : World C D) (c : ℕ) (p : Place C) (e : Event) (m : Moved C M) → slice_get w.places c ≡ Some p → Move r w.now c p e m → IsAloneEvent r w e
      → w.verdict ≡ None → IsSingle w
      → ((i : ℕ) → IsHeldAt v i → ((c ≡ i) × (is_held m.place ≡ true)) ⊎ IsHeldAt w i)
      → (i j : ℕ) → IsHeldAt v i → IsHeldAt v j → i ≡ j
  move-single w v c p e m there (Taken worker free) alone running single back i j first second =
      let only : (k : ℕ) → IsHeldAt v k → c ≡ k =
      λ k held. elim (back k held) [
        | inl is ↦ is.0
        | inr was ↦ absurd (cc (none-at is_held w.places k was.place alone.nobody was.there, was.held))
      ] in
      sym (only i first) ∙ only j second
  move-single w v c p e m there (FiredBy worker note acts copies after holds is) alone running single back i j first second =
      let was = was-held w v c p m.place there (λ held. held) back in
      single running i j (was i first) (was j second)
  move-single w v c p e m there (EndedBy worker after end holds ends) alone running single back i j first second =
      let was = was-held w v c p m.place there (λ held. absurd (cc held)) back in
      single running i j (was i first) (was j second)
  move-single w v c p e m there (Released worker holds) alone running single back i j first second = absurd alone

  cleared-single : (w : World C D) → AreCleared r w → IsSingle w
  cleared-single w clear running c d first second =
      let none = clear running c first.place first.there in
      absurd (cc (none.holder, first.held))

module _ {C M D : Type 0} (r : Rules C M D) (Fits : ℕ → C → ℕ → Type 0) (Suits : ℕ → M → ℕ → Type 0) (Leads : D → ℕ → ℕ → Type 0) (sound : IsSound r Fits Suits Leads) where
  change-single : (n : ℕ) (w : World C D) (e : Event) (st : Stepped C D) → Change r n w e st → IsAloneEvent r w e → w.verdict ≡ None
      → WorldFits r Fits Suits Leads sound w → IsSingle r w → IsSingle r st.world
  change-single n w e st (Moves c p f m there move) alone running fit single =
      λ goes i j first second.
      let grown = moved-grown r Fits Suits Leads sound w c p e m there move fit in
      move-single r w (with_moved r w c m) c p e m there move alone running single
      (λ k held.
      let (t, was, later) = paired-back (IsLater r w.now) (slice_get (slice_set w.places c m.place) k) (slice_get (with_moved r w c m).places k) held.place (grown.later k) held.there in
      set-held r w c k p m.place t there was (ap (λ (o : Option ℕ). is_some o) (sym later.holder) ∙ held.held))
      i j first second
  change-single n w e st (Closes worker c idle least) alone running fit single =
      cleared-single r _ (turn-clears r Fits Suits Leads sound n w (Turn worker) _ (Closes worker c idle least) refl running fit)
  change-single n w e st (Turns worker idle least) alone running fit single =
      cleared-single r _ (turn-clears r Fits Suits Leads sound n w (Turn worker) _ (Turns worker idle least) refl running fit)

  ended-not : (w : World C D) → HasEnded w → w.verdict ≡ None → ⊥
  ended-not w ended running = absurd (cc (ended, running))

  -- one event more of each of two runs by one worker
  rest-same : (history one other : List Event) (x a b : Ran C D) → IsRun r history x.world x.journal
      → WorldFits r Fits Suits Leads sound x.world → IsSingle r x.world
      → IsAlone r (history ++ one) → Path r x one a → HasEnded a.world
      → IsAlone r (history ++ other) → Path r x other b → HasEnded b.world
      → one ≡ other
  rest-same history [] [] x a b so_far fit single alone way ended apart leads closed = refl
  rest-same history [] (f ∷ other) x a b so_far fit single alone way ended apart leads closed =
      let (st, goes, rest) = headed r x (f ∷ other) b leads in
      let here : HasEnded x.world = subst (λ (y : Ran C D). HasEnded y.world) (sym (headed r x [] a way)) ended in
      absurd (ended-not x.world here goes.running)
  rest-same history (e ∷ one) [] x a b so_far fit single alone way ended apart leads closed =
      let (st, goes, rest) = headed r x (e ∷ one) a way in
      let here : HasEnded x.world = subst (λ (y : Ran C D). HasEnded y.world) (sym (headed r x [] b leads)) closed in
      absurd (ended-not x.world here goes.running)
  rest-same history (e ∷ one) (f ∷ other) x a b so_far fit single alone way ended apart leads closed =
      let (st, goes, rest) = headed r x (e ∷ one) a way in
      let (st', goes', rest') = headed r x (f ∷ other) b leads in
      let n : ℕ = length x.journal in
      let does : IsAloneEvent r x.world e = alone history one e x.world x.journal refl so_far in
      let does' : IsAloneEvent r x.world f = apart history other f x.world x.journal refl so_far in
      let same : e ≡ f = same-event r x.world e f goes.running single (doing r n x.world e st goes.change does) (doing r n x.world f st' goes'.change does') in
      let next : st ≡ st' = same_Some st st' (sym goes.is ∙ ap (λ (g : Event). step r n x.world g) same ∙ goes'.is) in
      let onward : IsRun r (history ++ e ∷ []) st.world (x.journal ++ option_to_list st.entry) = run-more r history e x.world x.journal st so_far goes.is in
      let alone' : IsAlone r ((history ++ e ∷ []) ++ one) = subst (λ (h : List Event). IsAlone r h) (sym (append_assoc history (e ∷ []) one)) alone in
      let apart_e : IsAlone r (history ++ e ∷ other) = subst (λ (g : Event). IsAlone r (history ++ g ∷ other)) (sym same) apart in
      let apart' : IsAlone r ((history ++ e ∷ []) ++ other) = subst (λ (h : List Event). IsAlone r h) (sym (append_assoc history (e ∷ []) other)) apart_e in
      let leads' : Path r (with_step x st) other b = subst (λ (y : Stepped C D). Path r (with_step x y) other b) (sym next) rest' in
      let fit' = change-fits r Fits Suits Leads sound n x.world e st goes.change goes.running fit in
      let single' = change-single n x.world e st goes.change does goes.running fit single in
      ap (λ (es : List Event). e ∷ es) (rest-same (history ++ e ∷ []) one other (with_step x st) a b onward fit' single' alone' rest ended apart' leads' closed)
      ∙ ap (λ (g : Event). g ∷ other) same

  pub one-history : (history other : List Event) (w v : World C D) (journal told : List Entry)
      → IsRun r history w journal → HasEnded w → IsAlone r history → IsRun r other v told → HasEnded v → IsAlone r other → history ≡ other
  one-history history other w v journal told is ended alone also closed apart =
      let a : Ran C D = record { world = w; journal = journal } in
      let b : Ran C D = record { world = v; journal = told } in
      rest-same [] history other (start r) a b refl (opening-fits r Fits Suits Leads sound) (cleared-single r (opening r) (opening-cleared r Fits Suits Leads sound))
      alone (run-path r history w journal is) ended apart (run-path r other v told also) closed

  -- and so one world and one journal
  pub one-end : (history : List Event) (w v : World C D) (journal told : List Entry) → IsRun r history w journal → IsRun r history v told
      → (w ≡ v) × (journal ≡ told)
  one-end history w v journal told is also =
      let a : Ran C D = record { world = w; journal = journal } in
      let b : Ran C D = record { world = v; journal = told } in
      let same : a ≡ b = same_Some a b (sym is ∙ also) in
      (ap (λ (x : Ran C D). x.world) same, ap (λ (x : Ran C D). x.journal) same)
