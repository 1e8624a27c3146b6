-- Along a run the acts of each cycle are put in order, one after the other; as a cycle turns, one worker has done them.
use Rattle.std.proofs.Common.{◌≡◌, ◌+◌, ◌++◌, ◌&&◌, ℕ, Bool, true, false, not, is_none, is_some, Option, None, Some, List, [], ◌∷◌, cond, length, map, refl, sym, ◌∙◌, ap, subst, slice_get, slice_set, arith}
use Rattle.std.specs.Option.{option_map, option_to_list}
use Rattle.std.proofs.lemmas.Bool.{or_parts}
use Rattle.std.proofs.lemmas.List.{append-nil, append_assoc, length-append, map-set}
use Rattle.std.proofs.lemmas.Option.{same_Some, slice_get-map}
use Rattle.run_journal.specs.declared.entry.End.{End}
use Rattle.run_journal.specs.declared.entry.Entry.{Entry}
use Rattle.run_journal.specs.declared.entry.Entry.TheVariants as entry
use Rattle.run_journal.specs.declared.event.Event.{Event}
use Rattle.run_journal.specs.declared.event.Event.TheVariants.{Turn}
use Rattle.cycle_order.specs.Prelude.{Rises, is_turned, ordered, ordered_on, put}
use Rattle.cycle_order.proofs.Ordered.{put-length, put-rises, rises-none}
use Rattle.protocol_runs.specs.Prelude.{CarriesMail, Change, Closes, EndedBy, Ends, Filled, Fired, FiredBy, Full, HasEnded, Halted, Idle, Idled, IsAlone, IsFramed, IsIdle, IsRun, IsSound, Move, Moved, Moves, Outcome, Place, Ran, Released, Rules, Stepped, Stop, Taken, Turns, World, after_driver, driver_turn_in, fired_entry, given_back, held_by_nobody, is_busy, is_due, is_free, is_held, must_wake, opening, start, step, stopped_by, with_deliveries, with_driver_turn, with_moved}
use Rattle.protocol_runs.proofs.Fitting.{MoveKeeps, WorldFits, change-fits, move-keeps, moved-grown, opening-fits}
use Rattle.protocol_runs.proofs.Places.{IsLater, paired-back, set-at}
use Rattle.protocol_runs.proofs.Runs.{hold-along, run-more, with_step}
use Rattle.protocol_runs.proofs.Steps.{change-steps}
use Rattle.protocol_runs.proofs.Woken.{AreCleared, none-at, opening-cleared, turn-clears}
use Rattle.schedule_laws.specs.Prelude.{ArrivalsSwap, IsOne, act_entry, acted, acted_by, entry_by}
use Rattle.schedule_laws.proofs.Acting.{Reached}
use Rattle.schedule_laws.proofs.ActPaths.{ActPath, Rests, put-act}
use Rattle.schedule_laws.proofs.Delivered.{freed-through, same-lists, set-there}
use Rattle.schedule_laws.proofs.LonePaths.{AreFree, HoldsNobody, Lone, NoneFree, alone-more, alone-none, run-on}

module _ {C M D : Type 0} (r : Rules C M D) where
  -- a world in which nobody holds a controller
  abbrev pub freed : World C D → World C D
  freed w = record w { places = map held_by_nobody w.places }

  freed-at : (w : World C D) (c : ℕ) (p : Place C) → slice_get w.places c ≡ Some p → slice_get (freed w).places c ≡ Some (held_by_nobody p)
  freed-at w c p there = slice_get-map held_by_nobody w.places c ∙ ap (option_map held_by_nobody) there

  freed-moved : (w : World C D) (c : ℕ) (m : Moved C M) → freed (with_moved r w c m) ≡ with_moved r (freed w) c (record m { place = held_by_nobody m.place })
  freed-moved w c m =
      ap (λ (l : List (Place C)). let v : World C D = record w { places = l } in v)
      (freed-through r (slice_set w.places c m.place) m.copies
      ∙ ap (λ (l : List (Place C)). with_deliveries r l m.copies) (map-set held_by_nobody w.places c m.place))

  nobody-there : (p : Place C) → p.holder ≡ None → held_by_nobody p ≡ p
  nobody-there p none = ap (λ (o : Option ℕ). let q : Place C = record p { holder = o } in q) (sym none)

  freed-same : (w : World C D) → AreFree r w → freed w ≡ w
  freed-same w free =
      ap (λ (l : List (Place C)). let v : World C D = record w { places = l } in v)
      (same-lists (map held_by_nobody w.places) w.places (λ i. slice_get-map held_by_nobody w.places i ∙ at i (slice_get w.places i) refl))
    where
      at : (i : ℕ) (o : Option (Place C)) → slice_get w.places i ≡ o → option_map held_by_nobody o ≡ o
      at i None there = refl
      at i (Some p) there = ap (λ (q : Place C). Some q) (nobody-there p (free i p there))

  not-some : {X : Type 0} (o : Option X) → is_some o ≡ false → o ≡ None
  not-some None is = refl
  not-some (Some x) is = absurd (cc is)

  idle-free : (w : World C D) → IsIdle r w → AreFree r w
  idle-free w idle c p there =
      let parts = or_parts (is_held p) (is_due r w.now p) (none-at (is_busy r w.now) w.places c p idle there) in
      not-some p.holder parts.0

  due-of : (now : ℕ) (p : Place C) → is_free r now p ≡ true → is_due r now p ≡ true
  due-of now p free = by (is_due r now p) (is_none p.holder) free
    where
      by : (a b : Bool) → (a && b) ≡ true → a ≡ true
      by true b is = refl
      by false b is = absurd (cc is)

  idle-none : (w : World C D) → IsIdle r w → NoneFree r w
  idle-none w idle c p there free =
      let parts = or_parts (is_held p) (is_due r w.now p) (none-at (is_busy r w.now) w.places c p idle there) in
      absurd (cc (parts.1, due-of w.now p free))

  -- who is held is due
  abbrev pub HeldAreDue : World C D → Type 0
  HeldAreDue w = (c : ℕ) (p : Place C) → slice_get w.places c ≡ Some p → is_held p ≡ true → is_due r w.now p ≡ true

  free-then : (now : ℕ) (p : Place C) → is_due r now p ≡ true → is_free r now (held_by_nobody p) ≡ true
  free-then now p due = ap (λ (b : Bool). b && true) due

  -- of a cycle in the midst of a run: where it begins, by one worker, and its acts so far, in order
  pub record Mid (x : Ran C D) : Type 0 where
    pub begins : World C D
    pub history : List Event
    pub journal : List Entry
    pub is : IsRun r history begins journal
    pub alone : IsAlone r history
    pub running : begins.verdict ≡ None
    pub free : AreFree r begins
    pub cycle : List Entry
    pub rises : Rises cycle
    pub acts : ActPath r begins cycle (freed x.world)
    pub order : (rest : List Entry) → ordered (x.journal ++ rest) ≡ journal ++ ordered_on cycle rest
    pub count : length x.journal ≡ length journal + length cycle
    pub due : HeldAreDue x.world

  reached-of : (x : Ran C D) (mid : Mid x) → Reached r mid.begins
  reached-of x mid = record { history = mid.history; journal = mid.journal; is = mid.is; running = mid.running }

  -- nothing is done to the acts
  still : (x : Ran C D) (v : World C D) → Mid x → freed v ≡ freed x.world → HeldAreDue v → Mid (with_step x (record { world = v; entry = None }))
  still x v mid same due = record {
    begins = mid.begins;
    history = mid.history;
    journal = mid.journal;
    is = mid.is;
    alone = mid.alone;
    running = mid.running;
    free = mid.free;
    cycle = mid.cycle;
    rises = mid.rises;
    acts = subst (λ (u : World C D). ActPath r mid.begins mid.cycle u) (sym same) mid.acts;
    order = λ rest. ap (λ (l : List Entry). ordered (l ++ rest)) (append-nil x.journal) ∙ mid.order rest;
    count = ap (λ (l : List Entry). length l) (append-nil x.journal) ∙ mid.count;
    due = due;
  }

module _ {C M D : Type 0} (r : Rules C M D) (Fits : ℕ → C → ℕ → Type 0) (Suits : ℕ → M → ℕ → Type 0) (Leads : D → ℕ → ℕ → Type 0)
    (sound : IsSound r Fits Suits Leads) (carries : CarriesMail r Fits Suits Leads) (framed : IsFramed r Fits Suits) (swap : ArrivalsSwap r) where
  -- what is held stays due
  own-due : (now c : ℕ) (p : Place C) (e : Event) (m : Moved C M) → Move r now c p e m → must_wake r now m.place ≡ must_wake r now p
      → (is_held p ≡ true → is_due r now p ≡ true) → is_held m.place ≡ true → is_due r now m.place ≡ true
  own-due now c p e m (Taken worker free) awake due held = due-of r now p free
  own-due now c p e m (FiredBy worker note acts copies after holds is) awake due held =
      ap (λ (b : Bool). b && not p.finished) awake ∙ due (ap (λ (o : Option ℕ). is_some o) holds)
  own-due now c p e m (EndedBy worker after end holds ends) awake due held = absurd (cc held)
  own-due now c p e m (Released worker holds) awake due held = absurd (cc held)

  module _ (w : World C D) (fits : WorldFits r Fits Suits Leads sound w) (due : HeldAreDue r w)
      (c : ℕ) (p : Place C) (there : slice_get w.places c ≡ Some p) (e : Event) (m : Moved C M) (move : Move r w.now c p e m) where
    keeps : MoveKeeps r Fits Suits Leads sound w.now c p m
    keeps = move-keeps r Fits Suits Leads sound w.now c p e m (fits.fit c p there) move

    pub moved-due : HeldAreDue r (with_moved r w c m)
    moved-due i q at held =
        let kept = keeps in
        let grown = moved-grown r Fits Suits Leads sound w c p e m there move fits in
        let (t, was, later) = paired-back (IsLater r w.now) (slice_get (slice_set w.places c m.place) i) (slice_get (with_moved r w c m).places i) q (grown.later i) at in
        let held_t : is_held t ≡ true = ap (λ (o : Option ℕ). is_some o) (sym later.holder) ∙ held in
        let due_t : is_due r w.now t ≡ true =
        set-at (λ (o : Option (Place C)). o ≡ Some t → is_due r w.now t ≡ true) w.places c i p m.place there
        (λ same own.
        let is : m.place ≡ t = same_Some m.place t own in
        ap (λ (s : Place C). is_due r w.now s) (sym is)
        ∙ own-due w.now c p e m move kept.awake (λ held_p. due c p there held_p) (ap (λ (s : Place C). is_held s) is ∙ held_t))
        (λ apart other. due i t other held_t)
        was in
        ap (λ (b : Bool). b && not q.finished) later.awake ∙ ap (λ (b : Bool). must_wake r w.now t && not b) later.finished ∙ due_t

  -- an act more
  acts-more : (x : Ran C D) (mid : Mid r x) (c : ℕ) (p : Place C) (m : Moved C M) (e : Entry) (o : Outcome C M) → slice_get x.world.places c ≡ Some p
      → is_due r x.world.now p ≡ true → (r.scan c p.controller x.world.now).outcome ≡ o
      → with_moved r (freed r x.world) c (record m { place = held_by_nobody m.place }) ≡ acted_by r (freed r x.world) c (held_by_nobody p) o
      → entry_by r x.world.now c o ≡ e → is_turned e ≡ false → HeldAreDue r (with_moved r x.world c m)
      → Mid r (with_step x (record { world = with_moved r x.world c m; entry = Some e }))
  acts-more x mid c p m e o there due scanned worlds entry quiet still_due =
      let w : World C D = x.world in
      let pb : Place C = held_by_nobody p in
      let v : World C D = with_moved r w c m in
      let put_in : ActPath r mid.begins (put (act_entry r w.now c pb) mid.cycle) (acted r (freed r w) c pb) =
      put-act r Fits Suits Leads sound carries framed swap mid.begins mid.cycle (freed r w) c pb mid.acts (reached-of r x mid) mid.rises (freed-at r w c p there) (free-then r w.now p due) in
      let so : acted r (freed r w) c pb ≡ freed r v = ap (acted_by r (freed r w) c pb) scanned ∙ sym worlds ∙ sym (freed-moved r w c m) in
      let is_entry : act_entry r w.now c pb ≡ e = ap (entry_by r w.now c) scanned ∙ entry in
      record {
        begins = mid.begins;
        history = mid.history;
        journal = mid.journal;
        is = mid.is;
        alone = mid.alone;
        running = mid.running;
        free = mid.free;
        cycle = put e mid.cycle;
        rises = put-rises e mid.cycle mid.rises;
        acts = subst (λ (f : Entry). ActPath r mid.begins (put f mid.cycle) (freed r v)) is_entry
            (subst (λ (u : World C D). ActPath r mid.begins (put (act_entry r w.now c pb) mid.cycle) u) so put_in);
        order = λ rest.
            ap ordered (append_assoc x.journal (e ∷ []) rest) ∙ mid.order (e ∷ rest)
            ∙ ap (λ (b : Bool). mid.journal ++ cond b (mid.cycle ++ e ∷ ordered_on [] rest) (ordered_on (put e mid.cycle) rest)) quiet;
        count = omega (arith, length-append x.journal (e ∷ []), mid.count, put-length e mid.cycle);
        due = still_due;
      }

  ends-outcome : (w : World C D) (c : ℕ) (p : Place C) (after : C) (end : End) → Ends r c w.now p.controller after end
      → (o : Outcome C M) × ((r.scan c p.controller w.now).outcome ≡ o)
      × (with_moved r (freed r w) c (given_back r w.now c after end) ≡ acted_by r (freed r w) c (held_by_nobody p) o)
      × (entry_by r w.now c o ≡ entry.Ended w.now c end)
  ends-outcome w c p after end (Idled y is) = (Idle y, is, refl, refl)
  ends-outcome w c p after end (Filled is) = (Full, is, refl, refl)
  ends-outcome w c p after end (Halted at is) = (Stop at, is, refl, refl)

  move-mid : (x : Ran C D) (mid : Mid r x) (c : ℕ) (p : Place C) (e : Event) (m : Moved C M) → slice_get x.world.places c ≡ Some p → Move r x.world.now c p e m
      → HeldAreDue r (with_moved r x.world c m) → Mid r (with_step x (record { world = with_moved r x.world c m; entry = m.entry }))
  move-mid x mid c p e m there (Taken worker free) due =
      let same : freed r (with_moved r x.world c m) ≡ freed r x.world =
      freed-moved r x.world c m
      ∙ ap (λ (l : List (Place C)). let v : World C D = record x.world { places = l } in v) (set-there (freed r x.world).places c (held_by_nobody p) (freed-at r x.world c p there)) in
      still r x (with_moved r x.world c m) mid same due
  move-mid x mid c p e m there (FiredBy worker note acts copies after holds is) due =
      acts-more x mid c p m (fired_entry x.world.now c note acts) (Fired note acts copies after) there (mid.due c p there (ap (λ (o : Option ℕ). is_some o) holds)) is refl refl refl due
  move-mid x mid c p e m there (EndedBy worker after end holds ends) due =
      let (o, is, worlds, told) = ends-outcome x.world c p after end ends in
      acts-more x mid c p m (entry.Ended x.world.now c end) o there (mid.due c p there (ap (λ (h : Option ℕ). is_some h) holds)) is worlds told refl due
  move-mid x mid c p e m there (Released worker holds) due =
      let same : freed r (with_moved r x.world c m) ≡ freed r x.world =
      freed-moved r x.world c m
      ∙ ap (λ (l : List (Place C)). let v : World C D = record x.world { places = l } in v) (set-there (freed r x.world).places c (held_by_nobody p) (freed-at r x.world c p there)) in
      still r x (with_moved r x.world c m) mid same due

  -- a turn, which one worker may make as well
  record IsTurnOf (n : ℕ) (w : World C D) (st : Stepped C D) : Type 0 where
    entry : Entry
    is : st.entry ≡ Some entry
    turned : is_turned entry ≡ true
    change : Change r n w (Turn 0) st

  -- what is known of a run so far
  pub record IsTold (x : Ran C D) : Type 0 where
    pub fits : WorldFits r Fits Suits Leads sound x.world
    pub mid : x.world.verdict ≡ None → Mid r x
    pub ended : HasEnded x.world → IsOne r x.world x.journal

  cleared-due : (w : World C D) → AreCleared r w → w.verdict ≡ None → HeldAreDue r w
  cleared-due w clear running c p there held = let is = clear running c p there in absurd (cc (is.holder, held))

  cleared-free : (w : World C D) → AreCleared r w → w.verdict ≡ None → AreFree r w
  cleared-free w clear running c p there = let is = clear running c p there in not-some r p.holder is.holder

  -- where nobody is held or due, one worker has done the cycle's acts
  pub idle-lone : (x : Ran C D) (mid : Mid r x) → IsIdle r x.world → Lone r x.world (mid.journal ++ mid.cycle)
  idle-lone x mid idle =
      let w : World C D = x.world in
      let way : ActPath r mid.begins mid.cycle w = subst (λ (u : World C D). ActPath r mid.begins mid.cycle u) (freed-same r w (idle-free r w idle)) mid.acts in
      let first : Lone r mid.begins mid.journal = record { history = mid.history; run = mid.is; alone = mid.alone } in
      run-on r Fits Suits Leads sound carries mid.begins mid.cycle w mid.journal way (reached-of r x mid) mid.rises mid.free (idle-none r w idle) (HoldsNobody first)

  turn-told : (x : Ran C D) (e : Event) (st : Stepped C D) → Mid r x → IsIdle r x.world → x.world.verdict ≡ None → IsTurnOf (length x.journal) x.world st
      → AreCleared r st.world → WorldFits r Fits Suits Leads sound st.world → IsTold (with_step x st)
  turn-told x e st mid idle running turn clear fits =
      let w : World C D = x.world in
      let n : ℕ = length (mid.journal ++ mid.cycle) in
      let lone : Lone r w (mid.journal ++ mid.cycle) = idle-lone x mid idle in
      let count : length x.journal ≡ n = omega (arith, mid.count, length-append mid.journal mid.cycle) in
      let steps : step r n w (Turn 0) ≡ Some st =
      change-steps r n w (Turn 0) st running (subst (λ (k : ℕ). Change r k w (Turn 0) st) count turn.change) in
      let alone : IsAlone r (lone.history ++ Turn 0 ∷ []) = alone-more r lone.history w (mid.journal ++ mid.cycle) (Turn 0) lone.alone lone.run refl in
      let whole : List Entry = (mid.journal ++ mid.cycle) ++ option_to_list st.entry in
      let ran : IsRun r (lone.history ++ Turn 0 ∷ []) st.world whole = run-more r lone.history (Turn 0) w (mid.journal ++ mid.cycle) st lone.run steps in
      let order : (rest : List Entry) → ordered ((x.journal ++ option_to_list st.entry) ++ rest) ≡ whole ++ ordered rest =
      λ rest.
      let o : Option Entry → List Entry = λ u. ordered ((x.journal ++ option_to_list u) ++ rest) in
      let i : Option Entry → List Entry = λ u. ((mid.journal ++ mid.cycle) ++ option_to_list u) ++ ordered rest in
      ap o turn.is ∙ ap ordered (append_assoc x.journal (turn.entry ∷ []) rest) ∙ mid.order (turn.entry ∷ rest)
      ∙ ap (λ (b : Bool). mid.journal ++ cond b (mid.cycle ++ turn.entry ∷ ordered rest) (ordered_on (put turn.entry mid.cycle) rest)) turn.turned
      ∙ sym (append_assoc mid.journal mid.cycle (turn.entry ∷ ordered rest))
      ∙ sym (append_assoc (mid.journal ++ mid.cycle) (turn.entry ∷ []) (ordered rest))
      ∙ sym (ap i turn.is) in
      record {
        fits = fits;
        mid = λ goes.
            let free = cleared-free st.world clear goes in
            record {
              begins = st.world;
              history = lone.history ++ Turn 0 ∷ [];
              journal = whole;
              is = ran;
              alone = alone;
              running = goes;
              free = free;
              cycle = [];
              rises = rises-none;
              acts = subst (λ (u : World C D). ActPath r st.world [] u) (sym (freed-same r st.world free)) (Rests st.world);
              order = order;
              count = omega (arith, length-append x.journal (option_to_list st.entry), length-append (mid.journal ++ mid.cycle) (option_to_list st.entry), count);
              due = cleared-due st.world clear goes;
            };
        ended = λ over. record {
          history = lone.history ++ Turn 0 ∷ [];
          run = subst (λ (l : List Entry). IsRun r (lone.history ++ Turn 0 ∷ []) st.world l)
              (sym (ap ordered (sym (append-nil (x.journal ++ option_to_list st.entry))) ∙ order [] ∙ append-nil whole)) ran;
          alone = alone;
        };
      }

  goes-told : (x : Ran C D) (e : Event) (st : Stepped C D) → Change r (length x.journal) x.world e st → x.world.verdict ≡ None → IsTold x → IsTold (with_step x st)
  goes-told x e st (Moves c p f m there move) running told =
      let mid = told.mid running in
      let due = moved-due x.world told.fits mid.due c p there e m move in
      record {
        fits = change-fits r Fits Suits Leads sound (length x.journal) x.world e st (Moves c p f m there move) running told.fits;
        mid = λ goes. move-mid x mid c p e m there move due;
        ended = λ over. absurd (cc (running, over));
      }
  goes-told x e st (Closes worker c idle least) running told =
      let change : Change r (length x.journal) x.world (Turn worker) (stopped_by r x.world c) = Closes worker c idle least in
      turn-told x (Turn worker) (stopped_by r x.world c) (told.mid running) idle running
      (record { entry = _; is = refl; turned = refl; change = Closes 0 c idle least })
      (turn-clears r Fits Suits Leads sound (length x.journal) x.world (Turn worker) _ change refl running told.fits)
      (change-fits r Fits Suits Leads sound (length x.journal) x.world (Turn worker) _ change running told.fits)
  goes-told x e st (Turns worker idle least) running told =
      let after : Stepped C D = after_driver r (length x.journal) (with_driver_turn r x.world (driver_turn_in r x.world)) (driver_turn_in r x.world) in
      let change : Change r (length x.journal) x.world (Turn worker) after = Turns worker idle least in
      turn-told x (Turn worker) after (told.mid running) idle running
      (record { entry = _; is = refl; turned = refl; change = Turns 0 idle least })
      (turn-clears r Fits Suits Leads sound (length x.journal) x.world (Turn worker) after change refl running told.fits)
      (change-fits r Fits Suits Leads sound (length x.journal) x.world (Turn worker) after change running told.fits)

  starts-told : IsTold (start r)
  starts-told =
      let clear = opening-cleared r Fits Suits Leads sound in
      let free = cleared-free (opening r) clear refl in
      record {
        fits = opening-fits r Fits Suits Leads sound;
        mid = λ goes. record {
          begins = opening r;
          history = [];
          journal = [];
          is = refl;
          alone = alone-none r;
          running = refl;
          free = free;
          cycle = [];
          rises = rises-none;
          acts = subst (λ (u : World C D). ActPath r (opening r) [] u) (sym (freed-same r (opening r) free)) (Rests (opening r));
          order = λ rest. refl;
          count = refl;
          due = cleared-due (opening r) clear refl;
        };
        ended = λ over. absurd (cc over);
      }

  run-told : (history : List Event) (w : World C D) (journal : List Entry) → IsRun r history w journal → IsTold (record { world = w; journal = journal })
  run-told history w journal is = hold-along r IsTold (λ x e st goes told. goes-told x e st goes.change goes.running told) history w journal starts-told is

  -- each ended run is, in cycle order, one of one worker
  pub one-of : (history : List Event) (w : World C D) (journal : List Entry) → IsRun r history w journal → HasEnded w → IsOne r w journal
  one-of history w journal is ended = let told = run-told history w journal is in told.ended ended

  -- and so is each one up to where a cycle may turn
  pub one-idle : (history : List Event) (w : World C D) (journal : List Entry) → IsRun r history w journal → w.verdict ≡ None → IsIdle r w → IsOne r w journal
  one-idle history w journal is running idle =
      let told = run-told history w journal is in
      let x : Ran C D = record { world = w; journal = journal } in
      let mid : Mid r x = told.mid running in
      let lone = idle-lone x mid idle in
      let order : ordered journal ≡ mid.journal ++ mid.cycle = ap ordered (sym (append-nil journal)) ∙ mid.order [] in
      record {
        history = lone.history;
        run = subst (λ (l : List Entry). IsRun r lone.history w l) (sym order) lone.run;
        alone = lone.alone;
      }
