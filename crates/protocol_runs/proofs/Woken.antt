-- In a run each controller that must wake at a cycle ends its wake-up in it once, and no other controller does.
use Rattle.std.proofs.Common.{◌≡◌, ◌≢◌, ◌+◌, ◌&&◌, ◌++◌, not, ℕ, zero, suc, Bool, true, false, Option, None, Some, List, [], ◌∷◌, length, refl, sym, ◌∙◌, ap, subst, slice_get, slice_set, is_some, IsTrue, add-zero, arith}
use Rattle.std.specs.Prelude.{count_by}
use Rattle.std.specs.List.{list_any, list_all}
use Rattle.std.proofs.lemmas.Bool.{not-true, or_parts, and_parts, eq-eqb, ne_eqb}
use Rattle.std.proofs.lemmas.List.{append_assoc}
use Rattle.std.proofs.lemmas.List.Sums.{sum_by-cons}
use Rattle.std.proofs.lemmas.Option.{same_Some}
use Rattle.run_journal.specs.declared.entry.Entry.{Entry}
use Rattle.run_journal.specs.declared.event.Event.{Event}
use Rattle.run_journal.specs.declared.event.Event.TheVariants.{Turn}
use Rattle.protocol_runs.specs.Prelude.{Rules, Place, World, must_wake, is_due, is_held, opening, opening_place, Stepped, Moved, with_moved, begun_place, is_busy, Ran, IsRun, start, is_turn, is_done_of, ends_with_turn, wakes_at, WakesOnce, Move, Taken, FiredBy, EndedBy, Released, IsIdle, Change, Moves, Closes, Turns, driven_world, IsOutcome, StopsAt, EndsWith, ContinuesAt, IsSound}
use Rattle.protocol_runs.proofs.Outcomes.{change-outcome}
use Rattle.protocol_runs.proofs.Steps.{move-quiet}
use Rattle.protocol_runs.proofs.Runs.{Path, with_step, headed, run-path, rest-path}
use Rattle.protocol_runs.proofs.Places.{mapped-from, paired-back, set-at, AreLater, IsLater}
use Rattle.protocol_runs.proofs.Tallies.{one}
use Rattle.protocol_runs.proofs.Fitting.{move-keeps, moved-grown, drive-grown, WorldFits, change-fits, opening-fits, world-fits}

-- a fact of each element, where none passes a test
pub none-at : {X : Type 0} (f : X → Bool) (xs : List X) (c : ℕ) (x : X) → list_any f xs ≡ false → slice_get xs c ≡ Some x → f x ≡ false
none-at f [] c x none there = absurd (cc there)
none-at f (y ∷ xs) zero x none there =
    let parts = or_parts (f y) (list_any f xs) none in
    ap f (sym (same_Some y x there)) ∙ parts.0
none-at f (y ∷ xs) (suc c) x none there = let parts = or_parts (f y) (list_any f xs) none in none-at f xs c x parts.1 there

module _ {C M D : Type 0} (r : Rules C M D) where
  -- of a place, at a cycle, after so many ends of its wake-up in it: whether it must wake, and that it is held only where it
  -- must and its wake-up hasn't ended
  record IsWaking (now : ℕ) (must : Bool) (n : ℕ) (p : Place C) : Type 0 where
    marks : must_wake r now p ≡ must
    ends : n ≡ one p.finished
    finished : p.finished ≡ true → must ≡ true
    held : is_held p ≡ true → (must ≡ true) × (p.finished ≡ false)

  abbrev AtPlace : ℕ → Bool → ℕ → Option (Place C) → Type 0
  AtPlace now must n None = (must ≡ false) × (n ≡ 0)
  AtPlace now must n (Some p) = IsWaking now must n p

  at-later : (now : ℕ) (must : Bool) (n : ℕ) (o u : Option (Place C)) → AreLater r now o u → AtPlace now must n o → AtPlace now must n u
  at-later now must n None None later at = at
  at-later now must n None (Some q) later at = absurd later
  at-later now must n (Some p) None later at = absurd later
  at-later now must n (Some p) (Some q) later at =
      let holds : is_held q ≡ is_held p = ap (λ (o : Option ℕ). is_some o) later.holder in
      record {
        marks = later.awake ∙ at.marks;
        ends = at.ends ∙ ap one (sym later.finished);
        finished = λ yes. at.finished (sym later.finished ∙ yes);
        held = λ yes. let both = at.held (sym holds ∙ yes) in (both.0, later.finished ∙ both.1);
      }

  done-one : (c d : ℕ) (e : Event) (now : ℕ) (p : Place C) (m : Moved C M) → Move r now d p e m → d ≢ c → one (is_done_of c e) ≡ 0
  done-one c d e now p m (Taken worker free) apart = refl
  done-one c d e now p m (FiredBy worker note acts copies after holds is) apart = refl
  done-one c d e now p m (EndedBy worker after end holds ends) apart = ap one (ne_eqb d c apart)
  done-one c d e now p m (Released worker holds) apart = refl

  move-wakes : (now : ℕ) (must : Bool) (n c : ℕ) (p : Place C) (e : Event) (m : Moved C M) → Move r now c p e m
      → must_wake r now m.place ≡ must_wake r now p → IsWaking now must n p → IsWaking now must (n + one (is_done_of c e)) m.place
  move-wakes now must n c p e m (Taken worker free) awake at =
      record {
        marks = awake ∙ at.marks;
        ends = omega (arith, at.ends);
        finished = at.finished;
        held = λ held. grind (arith, free, at.marks);
      }
  move-wakes now must n c p e m (FiredBy worker note acts copies after holds is) awake at =
      record { marks = awake ∙ at.marks; ends = omega (arith, at.ends); finished = at.finished; held = at.held }
  move-wakes now must n c p e m (EndedBy worker after end holds ends) awake at =
      let held : is_held p ≡ true = ap (λ (o : Option ℕ). is_some o) holds in
      let both = at.held held in
      let none : n ≡ 0 = at.ends ∙ ap one both.1 in
      let here : one (is_done_of c (e)) ≡ 1 = ap one (eq-eqb c c refl) in
      record {
        marks = awake ∙ at.marks;
        ends = omega (arith, none, here);
        finished = λ yes. both.0;
        held = λ held. absurd (cc held);
      }
  move-wakes now must n c p e m (Released worker holds) awake at =
      record { marks = awake ∙ at.marks; ends = omega (arith, at.ends); finished = at.finished; held = λ held. absurd (cc held) }

  -- a turn comes where nobody is busy
  pub turn-idle : (n : ℕ) (w : World C D) (e : Event) (st : Stepped C D) → Change r n w e st → is_turn e ≡ true → IsIdle r w
  turn-idle n w e st (Moves c p f m there move) turns = absurd (cc (turns, move-quiet r w.now c p e m move))
  turn-idle n w e st (Closes worker c idle least) turns = idle
  turn-idle n w e st (Turns worker idle least) turns = idle

  -- as a cycle ends
  ends-of : (must finished : Bool) → (finished ≡ true → must ≡ true) → (must && not finished) ≡ false → one finished ≡ one must
  ends-of true true back done = refl
  ends-of true false back done = absurd (cc done)
  ends-of false true back done = absurd (cc (back refl))
  ends-of false false back done = refl

  at-end : (w : World C D) (must : Bool) (n c : ℕ) (o : Option (Place C)) → IsIdle r w → slice_get w.places c ≡ o → AtPlace w.now must n o → n ≡ one must
  at-end w must n c None idle there at = at.1 ∙ ap one (sym at.0)
  at-end w must n c (Some p) idle there at =
      let parts = or_parts (is_held p) (is_due r w.now p) (none-at (is_busy r w.now) w.places c p idle there) in
      let rest : (must && not p.finished) ≡ false = ap (λ (b : Bool). b && not p.finished) (sym at.marks) ∙ parts.1 in
      at.ends ∙ ends-of must p.finished at.finished rest

  -- where no verdict stands, nobody is finished or held
  pub record IsCleared (p : Place C) : Type 0 where
    pub finished : p.finished ≡ false
    pub holder : is_held p ≡ false

  abbrev pub AreCleared : World C D → Type 0
  AreCleared w = w.verdict ≡ None → (c : ℕ) (p : Place C) → slice_get w.places c ≡ Some p → IsCleared p

  -- as a cycle begins
  at-start : (now : ℕ) (o : Option (Place C)) → ((p : Place C) → o ≡ Some p → IsCleared p) → AtPlace now (wakes_at r now o) 0 o
  at-start now None clear = (refl, refl)
  at-start now (Some p) clear =
      let is = clear p refl in
      record {
        marks = refl;
        ends = ap one (sym is.finished);
        finished = λ yes. absurd (cc (yes, is.finished));
        held = λ yes. absurd (cc (yes, is.holder));
      }

module _ {C M D : Type 0} (r : Rules C M D) (Fits : ℕ → C → ℕ → Type 0) (Suits : ℕ → M → ℕ → Type 0) (Leads : D → ℕ → ℕ → Type 0) (sound : IsSound r Fits Suits Leads) where
  -- one event of a cycle
  event-wakes : (n : ℕ) (w : World C D) (e : Event) (st : Stepped C D) (must : Bool) (k c : ℕ) → Change r n w e st → is_turn e ≡ false
      → WorldFits r Fits Suits Leads sound w → AtPlace r w.now must k (slice_get w.places c)
      → AtPlace r st.world.now must (k + one (is_done_of c e)) (slice_get st.world.places c)
  event-wakes n w e st must k c (Moves d p f m there move) quiet fit at =
      let keeps = move-keeps r Fits Suits Leads sound w.now d p e m (fit.fit d p there) move in
      let grown = moved-grown r Fits Suits Leads sound w d p e m there move fit in
      let set = slice_set w.places d m.place in
      let changed : AtPlace r w.now must (k + one (is_done_of c e)) (slice_get set c) =
      set-at (AtPlace r w.now must (k + one (is_done_of c e))) w.places d c p m.place there
      (λ same.
      let here : slice_get w.places c ≡ Some p = ap (λ (i : ℕ). slice_get w.places i) (sym same) ∙ there in
      let moved = move-wakes r w.now must k d p e m move keeps.awake (subst (AtPlace r w.now must k) here at) in
      subst (λ (i : ℕ). IsWaking r w.now must (k + one (is_done_of i e)) m.place) same moved)
      (λ apart.
      let same : k ≡ k + one (is_done_of c e) = omega (arith, done-one r c d e w.now p m move apart) in
      subst (λ (i : ℕ). AtPlace r w.now must i (slice_get w.places c)) same at) in
      at-later r w.now must (k + one (is_done_of c e)) (slice_get set c) (slice_get (with_moved r w d m).places c) (grown.later c) changed
  event-wakes n w e st must k c (Closes worker d idle least) quiet fit at = absurd (cc quiet)
  event-wakes n w e st must k c (Turns worker idle least) quiet fit at = absurd (cc quiet)

  -- all events of a cycle, and its turn
  cycle-wakes : (x : Ran C D) (cycle : List Event) (worker : ℕ) (after : List Event) (y : Ran C D) (must : Bool) (k c : ℕ)
      → Path r x (cycle ++ Turn worker ∷ after) y → IsTrue (list_all (λ e. not (is_turn e)) cycle)
      → WorldFits r Fits Suits Leads sound x.world → AtPlace r x.world.now must k (slice_get x.world.places c)
      → k + count_by (is_done_of c) cycle ≡ one must
  cycle-wakes x [] worker after y must k c way are fit at =
      let (st, goes, rest) = headed r x (Turn worker ∷ after) y way in
      let idle = turn-idle r (length x.journal) x.world (Turn worker) st goes.change refl in
      add-zero k ∙ at-end r x.world must k c (slice_get x.world.places c) idle refl at
  cycle-wakes x (e ∷ es) worker after y must k c way are fit at =
      let (st, goes, rest) = headed r x (e ∷ (es ++ Turn worker ∷ after)) y way in
      let parts = and_parts (not (is_turn e)) (list_all (λ f. not (is_turn f)) es) are in
      let quiet : is_turn e ≡ false = not-true (is_turn e) parts.0 in
      let fit' = change-fits r Fits Suits Leads sound (length x.journal) x.world e st goes.change goes.running fit in
      let at' = event-wakes (length x.journal) x.world e st must k c goes.change quiet fit at in
      let count : count_by (is_done_of c) (e ∷ es) ≡ one (is_done_of c e) + count_by (is_done_of c) es = sum_by-cons (λ f. one (is_done_of c f)) e es in
      let more = cycle-wakes (with_step x st) es worker after y must (k + one (is_done_of c e)) c rest parts.1 fit' at' in
      omega (arith, count, more)

  -- a turn that leaves no verdict clears the places
  outcome-clears : (n : ℕ) (w : World C D) (st : Stepped C D) → IsOutcome r n w st → IsIdle r w → w.verdict ≡ None → WorldFits r Fits Suits Leads sound w → AreCleared r st.world
  outcome-clears n w st (StopsAt c least) idle run fit running d p there = absurd (cc running)
  outcome-clears n w st (EndsWith v nobody comes) idle run fit running d p there = absurd (cc running)
  outcome-clears n w st (ContinuesAt next nobody on) idle run fit running c p there =
      let v : World C D = driven_world r w in
      let grown = drive-grown r Fits Suits Leads sound w run fit in
      let (q, begun, same) = mapped-from (begun_place r next) v.places c p there in
      let (s, before, later) = paired-back (IsLater r w.now) (slice_get w.places c) (slice_get v.places c) q (grown.later c) begun in
      let parts = or_parts (is_held s) (is_due r w.now s) (none-at (is_busy r w.now) w.places c s idle before) in
      subst (λ (x : Place C). IsCleared r x) same (record { finished = refl; holder = ap (λ (o : Option ℕ). is_some o) later.holder ∙ parts.0 })

  pub turn-clears : (n : ℕ) (w : World C D) (e : Event) (st : Stepped C D) → Change r n w e st → is_turn e ≡ true → w.verdict ≡ None → WorldFits r Fits Suits Leads sound w → AreCleared r st.world
  turn-clears n w e st change turns run fit =
      outcome-clears n w st (change-outcome r n w e st change turns) (turn-idle r n w e st change turns) run fit

  pub opening-cleared : AreCleared r (opening r)
  opening-cleared running c p is =
      let (x, there, same) = mapped-from opening_place r.controllers c p is in
      subst (λ (q : Place C). IsCleared r q) same (record { finished = refl; holder = refl })

  path-cleared : (x : Ran C D) (es : List Event) (y : Ran C D) → Path r x es y → IsTrue (ends_with_turn es) → WorldFits r Fits Suits Leads sound x.world
      → (es ≡ [] → AreCleared r x.world) → AreCleared r y.world
  path-cleared x [] y way turned fit clear = subst (λ (z : Ran C D). AreCleared r z.world) (headed r x [] y way) (clear refl)
  path-cleared x (e ∷ []) y way turned fit clear =
      let (st, goes, rest) = headed r x (e ∷ []) y way in
      let cleared = turn-clears (length x.journal) x.world e st goes.change turned goes.running fit in
      subst (λ (z : Ran C D). AreCleared r z.world) (headed r (with_step x st) [] y rest) cleared
  path-cleared x (e ∷ f ∷ es) y way turned fit clear =
      let (st, goes, rest) = headed r x (e ∷ f ∷ es) y way in
      path-cleared (with_step x st) (f ∷ es) y rest turned (change-fits r Fits Suits Leads sound (length x.journal) x.world e st goes.change goes.running fit) (λ none. absurd (cc none))

  -- no verdict stands where an event follows
  goes-on : (x : Ran C D) (es : List Event) (e : Event) (after : List Event) (y : Ran C D) → Path r x (es ++ e ∷ after) y → x.world.verdict ≡ None
  goes-on x [] e after y way = let (st, goes, rest) = headed r x (e ∷ after) y way in goes.running
  goes-on x (f ∷ fs) e after y way = let (st, goes, rest) = headed r x (f ∷ (fs ++ e ∷ after)) y way in goes.running

  pub wakes-once : (history : List Event) (w : World C D) (journal : List Entry) → IsRun r history w journal → WakesOnce r history
  wakes-once history w journal is =
      λ before cycle after worker v told split turned quiet so_far c.
      let whole : IsRun r (before ++ (cycle ++ Turn worker ∷ after)) w journal =
      subst (λ (h : List Event). IsRun r h w journal) (split ∙ append_assoc before cycle (Turn worker ∷ after)) is in
      let x : Ran C D = record { world = v; journal = told } in
      let y : Ran C D = record { world = w; journal = journal } in
      let way = rest-path r before (cycle ++ Turn worker ∷ after) v w told journal so_far whole in
      let fit = world-fits r Fits Suits Leads sound before v told so_far in
      let clear = path-cleared (start r) before x (run-path r before v told so_far) turned (opening-fits r Fits Suits Leads sound) (λ none. opening-cleared) in
      let running = goes-on x cycle (Turn worker) after y way in
      let at = at-start r v.now (slice_get v.places c) (clear running c) in
      let count = cycle-wakes x cycle worker after y (wakes_at r v.now (slice_get v.places c)) 0 c way quiet fit at in
      omega (arith, count)
