-- In each world of a run each controller fits. And what an event of a controller, and a turn, keep of the places.
use Rattle.std.proofs.Common.{◌≡◌, ◌<◌, ◌≤◌, IsTrue, ℕ, Option, None, Some, List, length, map, refl, sym, ◌∙◌, ap, subst, slice_get, slice_set, arith}
use Rattle.std.proofs.lemmas.List.{length-set, length-map}
use Rattle.std.proofs.lemmas.List.Elements.{All-nil}
use Rattle.std.proofs.lemmas.Option.{slice_get-map}
use Rattle.std.specs.Option.{option_map}
use Rattle.ruby_value.specs.Prelude.{has_mark}
use Rattle.run_journal.specs.declared.entry.End.{End}
use Rattle.run_journal.specs.declared.entry.Entry.{Entry}
use Rattle.run_journal.specs.declared.event.Event.{Event}
use Rattle.protocol_runs.specs.Prelude.{Rules, Place, World, must_wake, opening, opening_place, above, Stepped, Moved, with_moved, with_deliveries, changed_from, with_driver_turn, driver_turn_in, begun_place, IsRun, Ends, Idled, Filled, Halted, Move, Taken, FiredBy, EndedBy, Released, Change, Moves, Closes, Turns, driven_world, IsOutcome, StopsAt, EndsWith, ContinuesAt, IsSound, IsAsked, Keeps, AllSuit}
use Rattle.protocol_runs.proofs.Outcomes.{change-outcome}
use Rattle.protocol_runs.proofs.Runs.{hold-along}
use Rattle.protocol_runs.proofs.Places.{mapped-from, Paired, paired-back, paired-map, changed, changed-length, deliveries-length, IsLater, AllFit, set-fits, IsGrown, grown-grown, deliveries-grown}

module _ {C M D : Type 0} (r : Rules C M D) (Fits : ℕ → C → ℕ → Type 0) (Suits : ℕ → M → ℕ → Type 0) (Leads : D → ℕ → ℕ → Type 0) (sound : IsSound r Fits Suits Leads) where
  -- what an event of a controller keeps
  pub record MoveKeeps (now c : ℕ) (p : Place C) (m : Moved C M) : Type 0 where
    pub fits : Fits c m.place.controller now
    pub awake : must_wake r now m.place ≡ must_wake r now p
    pub later : (cycle : ℕ) → now < cycle → IsTrue (has_mark (r.marks p.controller) cycle) → IsTrue (has_mark (r.marks m.place.controller) cycle)
    pub suit : AllSuit r Fits Suits Leads now m.copies

  ends-keeps : (c now : ℕ) (x after : C) (e : End) → Fits c x now → Ends r c now x after e → Keeps r Fits Suits Leads c now x after
  ends-keeps c now x after e fits (Idled y is) = sound.idles c now x fits y is
  ends-keeps c now x after e fits (Filled is) = sound.fills c now x fits is
  ends-keeps c now x after e fits (Halted at is) = sound.stops c now x fits at is

  pub move-keeps : (now c : ℕ) (p : Place C) (e : Event) (m : Moved C M) → Fits c p.controller now → Move r now c p e m → MoveKeeps now c p m
  move-keeps now c p e m fits (Taken worker free) = record { fits = fits; awake = refl; later = λ cycle above has. has; suit = All-nil _ }
  move-keeps now c p e m fits (FiredBy worker note acts copies after holds is) =
      let both = sound.fires c now p.controller fits note acts copies after is in
      record { fits = both.0.fits; awake = both.0.awake; later = both.0.later; suit = both.1 }
  move-keeps now c p e m fits (EndedBy worker after end holds ends) =
      let keeps = ends-keeps c now p.controller after end fits ends in
      record { fits = keeps.fits; awake = keeps.awake; later = keeps.later; suit = All-nil _ }
  move-keeps now c p e m fits (Released worker holds) = record { fits = fits; awake = refl; later = λ cycle above has. has; suit = All-nil _ }

  -- what holds of each world of a run: each controller fits at its cycle, which is within the bound, and the driver leads
  pub record WorldFits (w : World C D) : Type 0 where
    pub fit : AllFit r Fits w.now w.places
    pub count : length w.places ≡ length r.controllers
    pub bound : w.now ≤ r.cycles
    pub leads : w.verdict ≡ None → Leads w.driver w.issued w.now

  -- the places after an event of a controller: grown from those with this one changed
  pub moved-grown : (w : World C D) (c : ℕ) (p : Place C) (e : Event) (m : Moved C M) → slice_get w.places c ≡ Some p → Move r w.now c p e m
      → WorldFits w → IsGrown r Fits w.now (slice_set w.places c m.place) (with_moved r w c m).places
  moved-grown w c p e m there move fits =
      let keeps = move-keeps w.now c p e m (fits.fit c p there) move in
      deliveries-grown r Fits Suits Leads sound w.now (slice_set w.places c m.place) m.copies keeps.suit
      (set-fits r Fits Suits Leads sound w.now w.places c p m.place there keeps.fits fits.fit)

  -- the driver's turn in a world
  abbrev pub controllers_in : World C D → List C
  controllers_in w = map (λ (p : Place C). p.controller) w.places

  pub asked-in : (w : World C D) → w.verdict ≡ None → WorldFits w → IsAsked r Fits Suits Leads w.driver (controllers_in w) w.now w.issued
  asked-in w running fits =
      record {
        leads = fits.leads running;
        fits = λ c x is.
            let (p, there, same) = mapped-from (λ (q : Place C). q.controller) w.places c x is in
            subst (λ (y : C). Fits c y w.now) same (fits.fit c p there);
        count = length-map w.places (λ (q : Place C). q.controller) ∙ fits.count;
      }

  pub at-controller : (w : World C D) (c : ℕ) (p : Place C) → slice_get w.places c ≡ Some p → slice_get (controllers_in w) c ≡ Some p.controller
  at-controller w c p there =
      slice_get-map (λ (q : Place C). q.controller) w.places c ∙ ap (λ (o : Option (Place C)). option_map (λ (q : Place C). q.controller) o) there

  module _ (w : World C D) (running : w.verdict ≡ None) (fits : WorldFits w) where
    served-keeps : (c : ℕ) (p q : Place C) → slice_get w.places c ≡ Some p → q ≡ record p { controller = (driver_turn_in r w).controller_after c p.controller }
        → Fits c q.controller w.now × IsLater r w.now p q
    served-keeps c p q there served =
        let keeps = sound.serves w.driver (controllers_in w) w.now w.issued (asked-in w running fits) c p.controller (at-controller w c p there) in
        let s : Place C = record p { controller = (driver_turn_in r w).controller_after c p.controller } in
        let later : Fits c s.controller w.now × IsLater r w.now p s = (keeps.fits, record { finished = refl; holder = refl; awake = keeps.awake; later = keeps.later }) in
        subst (λ (x : Place C). Fits c x.controller w.now × IsLater r w.now p x) (sym served) later

    -- the places whose controllers the driver has served
    abbrev pub served_places : List (Place C)
    served_places = changed_from 0 (driver_turn_in r w).controller_after w.places

    pub served-grown : IsGrown r Fits w.now w.places served_places
    served-grown =
        let change : ℕ → C → C = (driver_turn_in r w).controller_after in
        let both : (c : ℕ) → Paired (λ p q. Fits c q.controller w.now × IsLater r w.now p q) (slice_get w.places c) (slice_get served_places c) =
        λ c. paired-map _ _ (slice_get w.places c) (slice_get served_places c) (λ p q there is. served-keeps c p q there is) (changed change w.places c) in
        record {
          fit = λ c q is. let (p, there, keeps) = paired-back _ (slice_get w.places c) (slice_get served_places c) q (both c) is in keeps.0;
          later = λ c. paired-map _ (IsLater r w.now) (slice_get w.places c) (slice_get served_places c) (λ p q there keeps. keeps.1) (both c);
        }

    pub drive-grown : IsGrown r Fits w.now w.places (with_driver_turn r w (driver_turn_in r w)).places
    drive-grown =
        grown-grown r Fits w.now w.places served_places (with_deliveries r served_places (driver_turn_in r w).requests) served-grown
        (deliveries-grown r Fits Suits Leads sound w.now served_places (driver_turn_in r w).requests
        (sound.asks w.driver (controllers_in w) w.now w.issued (asked-in w running fits)) served-grown.fit)

    pub drive-length : length (with_driver_turn r w (driver_turn_in r w)).places ≡ length r.controllers
    drive-length =
        deliveries-length r (changed_from 0 (driver_turn_in r w).controller_after w.places) (driver_turn_in r w).requests
        ∙ changed-length 0 (driver_turn_in r w).controller_after w.places ∙ fits.count

  -- the next cycle begins
  begun-fits : (now next : ℕ) (places : List (Place C)) → now < next → next ≤ r.cycles → AllFit r Fits now places
      → AllFit r Fits next (map (begun_place r next) places)
  begun-fits now next places above within fit c p is =
      let (q, there, same) = mapped-from (begun_place r next) places c p is in
      subst (λ (x : Place C). Fits c x.controller next) same (sound.begins c now next q.controller (fit c q there) above within)

  outcome-fits : (n : ℕ) (w : World C D) (st : Stepped C D) → IsOutcome r n w st → w.verdict ≡ None → WorldFits w → WorldFits st.world
  outcome-fits n w st (StopsAt c least) running fits =
      record { fit = fits.fit; count = fits.count; bound = fits.bound; leads = λ goes. absurd (cc goes) }
  outcome-fits n w st (EndsWith v nobody comes) running fits =
      let grown = drive-grown w running fits in
      record { fit = grown.fit; count = drive-length w running fits; bound = fits.bound; leads = λ goes. absurd (cc goes) }
  outcome-fits n w st (ContinuesAt next nobody on) running fits =
      let grown = drive-grown w running fits in
      let within = on.within in
      let above : w.now < next = within.next_cycle.later in
      record {
        fit = begun-fits w.now next (driven_world r w).places above within.bound grown.fit;
        count = length-map (driven_world r w).places (begun_place r next) ∙ drive-length w running fits;
        bound = within.bound;
        leads = λ goes. sound.goes_on w.driver (controllers_in w) w.now w.issued next (asked-in w running fits) above within.bound;
      }

  pub change-fits : (n : ℕ) (w : World C D) (e : Event) (st : Stepped C D) → Change r n w e st → w.verdict ≡ None → WorldFits w → WorldFits st.world
  change-fits n w e st (Moves c p f m there move) running fits =
      let grown = moved-grown w c p e m there move fits in
      record {
        fit = grown.fit;
        count = deliveries-length r (slice_set w.places c m.place) m.copies ∙ length-set w.places c m.place ∙ fits.count;
        bound = fits.bound;
        leads = fits.leads;
      }
  change-fits n w e st (Closes worker c idle least) running fits =
      outcome-fits n w st (change-outcome r n w e st (Closes worker c idle least) refl) running fits
  change-fits n w e st (Turns worker idle least) running fits =
      outcome-fits n w st (change-outcome r n w e st (Turns worker idle least) refl) running fits

  pub opening-fits : WorldFits (opening r)
  opening-fits =
      record {
        fit = λ c p is.
            let (x, there, same) = mapped-from opening_place r.controllers c p is in
            subst (λ (q : Place C). Fits c q.controller 0) same (sound.opens c x there);
        count = length-map r.controllers opening_place;
        bound = omega arith;
        leads = λ running. sound.starts;
      }

  pub world-fits : (history : List Event) (w : World C D) (journal : List Entry) → IsRun r history w journal → WorldFits w
  world-fits history w journal is =
      hold-along r (λ x. WorldFits x.world) (λ x e st goes fits. change-fits (length x.journal) x.world e st goes.change goes.running fits) history w journal opening-fits is

  -- in each world of a run each controller fits
  pub all-fit : (history : List Event) (w : World C D) (journal : List Entry) → IsRun r history w journal
      → (c : ℕ) (p : Place C) → slice_get w.places c ≡ Some p → Fits c p.controller w.now
  all-fit history w journal is = let fits = world-fits history w journal is in fits.fit
