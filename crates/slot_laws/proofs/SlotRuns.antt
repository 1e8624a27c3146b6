-- The slots of one buffer at one receiver are held in each world of a run, whoever the sender is.
use Rattle.std.proofs.Common.{◌≡◌, ◌≢◌, ◌<◌, ◌≤◌, ◌+◌, ◌++◌, ◌⊎◌, ◌∙◌, ℕ, true, false, List, [], ◌∷◌, None, Some, All, inl, inr, ⊎_elim, length, map, refl, sym, ap, subst, arith, slice_get, slice_set}
use Rattle.std.specs.Prelude.{count_by}
use Rattle.std.proofs.lemmas.List.Elements.{All-weaker}
use Rattle.std.proofs.lemmas.Option.{slice_get_within}
use Rattle.ruby_value.specs.declared.message.Delivery.{Delivery}
use Rattle.run_journal.specs.declared.entry.End.{End}
use Rattle.run_journal.specs.declared.entry.Entry.{Entry}
use Rattle.run_journal.specs.declared.entry.FireNote.{FireNote}
use Rattle.run_journal.specs.declared.event.Event.{Event}
use Rattle.ctl_face.specs.declared.parcel.Parcel.{Parcel}
use Rattle.ctl_face.specs.declared.parcel.Parcel.TheVariants as parcel
use Rattle.ctl_face.specs.Prelude.{Ctl, Mail, controller_count, free_slots, opening_ctl, with_one_fired}
use Rattle.ctl_face.proofs.Betweens.{driver_mail}
use Rattle.sequencer.specs.Prelude.{Drive, Seat}
use Rattle.protocol_runs.specs.Prelude.{Acts, Change, Closes, ContinuesAt, EndedBy, Ends, EndsWith, Filled, Fired, FiredBy, FitsRun, Halted, HasSeats, Idled, IsMeaning, IsOutcome, IsRun, IsSetting, Meaning, Move, Moved, Moves, Place, Ran, Released, Rests, Rules, Setting, Stepped, StopsAt, SuitsReceiver, Taken, Turns, World, acts_at, actor_of, begun_place, changed_from, driven_world, driver_turn_in, messages_for, opening, opening_place, rules, seats_in, with_controller, with_deliveries, with_moved}
use Rattle.protocol_runs.specs.Premises as premises
use Rattle.protocol_runs.proofs.Controllers.{count-is, opened}
use Rattle.protocol_runs.proofs.Driver.{IsDriver}
use Rattle.protocol_runs.proofs.Fitting as fitting_runs
use Rattle.protocol_runs.proofs.HeldGrow.{grown}
use Rattle.protocol_runs.proofs.HeldNew as held_new
use Rattle.protocol_runs.proofs.Outcomes.{change-outcome}
use Rattle.protocol_runs.proofs.Places.{changed, changed-length, deliveries-length, mapped-from, paired-back}
use Rattle.protocol_runs.proofs.Premises as own
use Rattle.protocol_runs.proofs.Runs.{Goes, hold-along, run-more, with_step}
use Rattle.protocol_runs.proofs.Scans.{begun, fitting, scan-of}
use Rattle.slot_laws.specs.Prelude.{copies_sent, has_size}
use Rattle.slot_laws.proofs.Coming.{AreNewTo, ComesLater, IsOfOther, brings_credit, come, credits_come}
use Rattle.slot_laws.proofs.Counts.{count-none}
use Rattle.slot_laws.proofs.Firing.{HasMoved, fired_moves}
use Rattle.slot_laws.proofs.Places.{DeliveredByDriver, IsOfDriver, after_set, all_of_driver, came_from, new_to}
use Rattle.slot_laws.proofs.Slots.{Holds, SameSlots, begun_holds, other_other, other_own, others_come, own_other, own_own, same_slots, still_holds}

module _ (r b n : ℕ) where
  -- at these places
  abbrev pub HoldsAt : ℕ → List (Place Ctl) → Type 0
  HoldsAt now places = (c : ℕ) (x y : Place Ctl) → slice_get places c ≡ Some x → slice_get places r ≡ Some y → Holds r b n now c x.controller.mail y.controller.mail

  -- each place was there with the same slots
  abbrev AreSame : List (Place Ctl) → List (Place Ctl) → Type 0
  AreSame before after = (c : ℕ) (y : Place Ctl) → slice_get after c ≡ Some y → (x : Place Ctl) × (slice_get before c ≡ Some x) × SameSlots x.controller.mail y.controller.mail

  same_at : (now : ℕ) (before after : List (Place Ctl)) → AreSame before after → HoldsAt now before → HoldsAt now after
  same_at now before after same holds c x y at_c at_r =
      let first = same c x at_c in
      let second = same r y at_r in
      let from : Place Ctl = first.0 in
      let to : Place Ctl = second.0 in
      still_holds r b n now c from.controller.mail to.controller.mail x.controller.mail y.controller.mail first.2 second.2 (holds c from to first.1 second.1)

  -- one place has changed, but not its slots
  set_same : (places : List (Place Ctl)) (c : ℕ) (p q : Place Ctl) → slice_get places c ≡ Some p → SameSlots p.controller.mail q.controller.mail → AreSame places (slice_set places c q)
  set_same places c p q there same d y at =
      ⊎_elim
      (λ here. (p, sym (ap (λ (i : ℕ). slice_get places i) here.0) ∙ there, subst (λ (z : Place Ctl). SameSlots p.controller.mail z.controller.mail) here.1 same))
      (λ other. (y, other.1, same_slots y.controller.mail))
      (after_set places c d p q y there at)

module _ {D : Type 0} (p : Meaning) (drive : D → List Seat → ℕ → Drive D) (needs : D → ℕ → ℕ) (least : D → ℕ) (s : Setting D)
    (means : IsMeaning p) (driver : IsDriver drive needs least) (is : IsSetting least s) where
  abbrev R : Rules Ctl Parcel D
  R = rules p drive s

  abbrev Fits : ℕ → Ctl → ℕ → Type 0
  Fits = FitsRun s

  abbrev Suits : ℕ → Parcel → ℕ → Type 0
  Suits = SuitsReceiver s

  abbrev Leads : D → ℕ → ℕ → Type 0
  Leads = HasSeats s least

  abbrev sound : premises.IsSound R Fits Suits Leads
  sound = own.sound p drive needs least s means driver is

  abbrev carries : premises.CarriesMail R Fits Suits Leads
  carries = own.carries_mail p drive needs least s means driver is

  abbrev pub WorldFits : World Ctl D → Type 0
  WorldFits w = fitting_runs.WorldFits R Fits Suits Leads sound w

  -- a controller of a world is one that the routes count
  pub is_counted : (w : World Ctl D) (c : ℕ) (x : Place Ctl) → WorldFits w → slice_get w.places c ≡ Some x → c < controller_count s.routes
  is_counted w c x fits at =
      let within = slice_get_within w.places c x at in
      let all = is.routes.receiving in
      omega (arith, within, fits.count, count-is s least is, all.all_rows)

  -- a wake-up that ends leaves the slots
  rests_same : (x after : Ctl) (c now : ℕ) (fits : Fits c x now) → Rests (begun p drive least s is c (fitting p drive least s is c x now fits).setup x now) after → SameSlots x.mail after.mail
  rests_same x after c now fits (inl same) = subst (λ (y : Ctl). SameSlots x.mail y.mail) (sym same) (same_slots x.mail)
  rests_same x after c now fits (inr same) = subst (λ (y : Ctl). SameSlots x.mail y.mail) (sym same) (record { inbox = refl; lent = refl; credits = refl })

  ends_same : (c now : ℕ) (x after : Ctl) (e : End) → Fits c x now → Ends R c now x after e → SameSlots x.mail after.mail
  ends_same c now x after e fits (Idled y idle) =
      let fit = fitting p drive least s is c x now fits in
      let scan = scan-of p drive least s is means c x now fit.setup fit.one in
      rests_same x y c now fits (scan.idles y idle)
  ends_same c now x after e fits (Filled full) = record { inbox = refl; lent = refl; credits = refl }
  ends_same c now x after e fits (Halted at stop) = record { inbox = refl; lent = refl; credits = refl }

  module _ (r b n : ℕ) (sized : has_size s.routes r b ≡ true)
      (takes : (c now : ℕ) (x : Ctl) → Fits c x now → (note : FireNote) (acts : Acts) (copies : List (Delivery Parcel)) (after : Ctl) → (R.scan c x now).outcome ≡ Fired note acts copies after
      → copies_sent acts.sent r b ≤ free_slots x.mail.lent x.mail.credits n r b now) where
    abbrev At : ℕ → List (Place Ctl) → Type 0
    At now places = HoldsAt r b n now places

    -- A transition.
    module _ (history : List Event) (w : World Ctl D) (journal : List Entry) (is_run : IsRun R history w journal) (running : w.verdict ≡ None) (holds : At w.now w.places)
        (worker c : ℕ) (q : Place Ctl) (there : slice_get w.places c ≡ Some q) (held : q.holder ≡ Some worker)
        (note : FireNote) (acts : Acts) (copies : List (Delivery Parcel)) (after : Ctl) (fired : (R.scan c q.controller w.now).outcome ≡ Fired note acts copies after) where
      whole : WorldFits w
      whole = fitting_runs.world-fits R Fits Suits Leads sound history w journal is_run

      abbrev F : Ctl
      F = with_one_fired after

      abbrev places : List (Place Ctl)
      places = slice_set w.places c (with_controller q F)

      abbrev for : ℕ → List Parcel
      for d = messages_for d copies

      moved : HasMoved (actor_of s c) w.now q.controller after acts.sent copies
      moved = fired_moves p drive least s is means c w.now q.controller (whole.fit c q there) note acts copies after fired

      few : copies_sent acts.sent r b ≤ free_slots q.controller.mail.lent q.controller.mail.credits n r b w.now
      few = takes c w.now q.controller (whole.fit c q there) note acts copies after fired

      new : (d : ℕ) (y : Place Ctl) → slice_get places d ≡ Some y → AreNewTo y.controller.mail.inbox (for d)
      new d y at =
          new_to R y.controller (for d)
          (held_new.still-new R Fits Suits Leads sound carries history w journal is_run running worker c q there held note acts copies after fired d y.controller [] y at (λ f. omega arith))

      -- the receiver is the controller itself, or another
      abbrev SenderIs : (sender : ℕ) (x y : Ctl) → Type 0
      SenderIs sender x y = Holds r b n w.now sender (come x (for sender)).mail (come y (for r)).mail

      own_sender : (y : Place Ctl) → slice_get places r ≡ Some y → ((c ≡ r) × (with_controller q F ≡ y)) ⊎ ((c ≢ r) × (slice_get w.places r ≡ Some y)) → SenderIs c F y.controller
      own_sender y at (inl here) =
          let at_r : slice_get w.places r ≡ Some q = sym (ap (λ (i : ℕ). slice_get w.places i) here.0) ∙ there in
          let Case : ℕ → Type 0 = λ k. has_size s.routes k b ≡ true → copies_sent acts.sent k b ≤ free_slots q.controller.mail.lent q.controller.mail.credits n k b w.now → AreNewTo F.mail.inbox (for k)
          → Holds k b n w.now c q.controller.mail q.controller.mail → Holds k b n w.now c (come F (for c)).mail (come F (for k)).mail in
          let case : Case c = λ size enough fresh h.
          own_own w.now (actor_of s c) q.controller after acts.sent copies moved b n (is_counted w c q whole there) size enough fresh h in
          let same : F ≡ y.controller = ap (λ (z : Place Ctl). z.controller) here.1 in
          subst (SenderIs c F) same
          (subst Case here.0 case sized few (subst (λ (z : Ctl). AreNewTo z.mail.inbox (for r)) (sym same) (new r y at)) (holds c q q there at_r))
      own_sender y at (inr other) =
          own_other w.now (actor_of s c) q.controller after acts.sent copies moved r b n y.controller (λ same. other.0 (sym same)) sized few (new r y at) (holds c q y there other.1)

      other_sender : (sender : ℕ) (x y : Place Ctl) → sender ≢ c → slice_get w.places sender ≡ Some x → ((c ≡ r) × (with_controller q F ≡ y)) ⊎ ((c ≢ r) × (slice_get w.places r ≡ Some y))
          → SenderIs sender x.controller y.controller
      other_sender sender x y apart at_sender (inl here) =
          let at_r : slice_get w.places r ≡ Some q = sym (ap (λ (i : ℕ). slice_get w.places i) here.0) ∙ there in
          let Case : ℕ → Type 0 = λ k. has_size s.routes k b ≡ true → Holds k b n w.now sender x.controller.mail q.controller.mail → Holds k b n w.now sender (come x.controller (for sender)).mail (come F (for k)).mail in
          let case : Case c = λ size h.
          other_own w.now (actor_of s c) q.controller after acts.sent copies moved sender b n x.controller apart (is_counted w sender x whole at_sender) size h in
          subst (SenderIs sender x.controller) (ap (λ (z : Place Ctl). z.controller) here.1) (subst Case here.0 case sized (holds sender x q at_sender at_r))
      other_sender sender x y apart at_sender (inr other) =
          other_other w.now (actor_of s c) q.controller after acts.sent copies moved sender r b n x.controller y.controller apart (λ same. other.0 (sym same)) (holds sender x y at_sender other.1)

      by_sender : (sender : ℕ) (x y : Place Ctl) → slice_get places r ≡ Some y → ((c ≡ r) × (with_controller q F ≡ y)) ⊎ ((c ≢ r) × (slice_get w.places r ≡ Some y))
          → ((c ≡ sender) × (with_controller q F ≡ x)) ⊎ ((c ≢ sender) × (slice_get w.places sender ≡ Some x)) → SenderIs sender x.controller y.controller
      by_sender sender x y at_r to (inl here) =
          subst (λ (z : Ctl). SenderIs sender z y.controller) (ap (λ (z : Place Ctl). z.controller) here.1) (subst (λ (k : ℕ). SenderIs k F y.controller) here.0 (own_sender y at_r to))
      by_sender sender x y at_r to (inr other) = other_sender sender x y (λ same. other.0 (sym same)) other.1 to

      pub fired_at : At w.now (with_deliveries R places copies)
      fired_at sender x y at_sender at_r =
          let first = came_from R places copies sender x at_sender in
          let second = came_from R places copies r y at_r in
          let from : Place Ctl = first.0 in
          let to : Place Ctl = second.0 in
          subst (λ (z : Place Ctl). Holds r b n w.now sender z.controller.mail y.controller.mail) first.2
          (subst (λ (z : Place Ctl). Holds r b n w.now sender (grown R from (for sender)).controller.mail z.controller.mail) second.2
          (by_sender sender from to second.1 (after_set w.places c r q (with_controller q F) to there second.1) (after_set w.places c sender q (with_controller q F) from there first.1)))

    -- An event of a controller.
    move_at : (history : List Event) (w : World Ctl D) (journal : List Entry) → IsRun R history w journal → w.verdict ≡ None → At w.now w.places
        → (c : ℕ) (q : Place Ctl) (e : Event) (m : Moved Ctl Parcel) → slice_get w.places c ≡ Some q → Move R w.now c q e m → At w.now (with_moved R w c m).places
    move_at history w journal is_run running holds c q e m there (Taken worker free) =
        same_at r b n w.now w.places (with_moved R w c m).places (set_same r b n w.places c q m.place there (same_slots q.controller.mail)) holds
    move_at history w journal is_run running holds c q e m there (FiredBy worker note acts copies after held fired) =
        fired_at history w journal is_run running holds worker c q there held note acts copies after fired
    move_at history w journal is_run running holds c q e m there (EndedBy worker after end held ends) =
        let fits = fitting_runs.world-fits R Fits Suits Leads sound history w journal is_run in
        same_at r b n w.now w.places (with_moved R w c m).places (set_same r b n w.places c q m.place there (ends_same c w.now q.controller after end (fits.fit c q there) ends)) holds
    move_at history w journal is_run running holds c q e m there (Released worker held) =
        same_at r b n w.now w.places (with_moved R w c m).places (set_same r b n w.places c q m.place there (same_slots q.controller.mail)) holds

    -- A turn: the driver acts, and the next cycle begins.
    module _ (w : World Ctl D) (fits : WorldFits w) (holds : At w.now w.places) where
      abbrev did : Drive D
      did = drive w.driver (seats_in s.seats (map (λ (x : Place Ctl). x.controller) w.places)) w.now

      abbrev served : List (Place Ctl)
      served = changed_from 0 (driver_turn_in R w).controller_after w.places

      served_same : AreSame r b n w.places served
      served_same c y at =
          let back = paired-back _ (slice_get w.places c) (slice_get served c) y (changed (driver_turn_in R w).controller_after w.places c) at in
          let x : Place Ctl = back.0 in
          let mail : y.controller.mail ≡ x.controller.mail = ap (λ (z : Place Ctl). z.controller.mail) back.2 ∙ driver_mail (acts_at s.seats c did) x.controller in
          (x, back.1, record { inbox = ap (λ (m : Mail). m.inbox) mail; lent = ap (λ (m : Mail). m.lent) mail; credits = ap (λ (m : Mail). m.credits) mail })

      served_at : At w.now served
      served_at = same_at r b n w.now w.places served served_same holds

      abbrev requests : List (Delivery Parcel)
      requests = (driver_turn_in R w).requests

      of_driver : All (DeliveredByDriver (length R.controllers)) requests
      of_driver = all_of_driver s.seats (length R.controllers) w.issued w.now did.issued

      for_one : (d : ℕ) → All (IsOfDriver (length R.controllers)) (messages_for d requests)
      for_one d = held_new.suits-for (λ _ x _. IsOfDriver (length R.controllers) x) w.now d requests of_driver

      of_other : (sender : ℕ) (x : Parcel) → ¬ (length R.controllers ≡ sender) → IsOfDriver (length R.controllers) x → IsOfOther sender x × ComesLater w.now x × (brings_credit r b x ≡ false)
      of_other sender (parcel.Message m) apart from = (λ same. apart (sym from ∙ same), tt, refl)
      of_other sender (parcel.Credit k) apart from = absurd from

      pub driven_at : At w.now (driven_world R w).places
      driven_at sender x y at_sender at_r =
          let first = came_from R served requests sender x at_sender in
          let second = came_from R served requests r y at_r in
          let from : Place Ctl = first.0 in
          let to : Place Ctl = second.0 in
          let within = slice_get_within (driven_world R w).places sender x at_sender in
          let apart : ¬ (length R.controllers ≡ sender) = driven_below sender within in
          let known : (d : ℕ) → All (λ (p : Parcel). IsOfOther sender p × ComesLater w.now p × (brings_credit r b p ≡ false)) (messages_for d requests) =
          λ d. All-weaker (IsOfDriver (length R.controllers)) (λ (p : Parcel). IsOfOther sender p × ComesLater w.now p × (brings_credit r b p ≡ false)) (λ p one. of_other sender p apart one) (messages_for d requests) (for_one d) in
          let none : count_by (brings_credit r b) (messages_for sender requests) ≡ 0 = count-none (brings_credit r b) (messages_for sender requests) (λ k d lt. (known sender k d lt).2) in
          let credits = credits_come r b from.controller (messages_for sender requests) in
          subst (λ (z : Place Ctl). Holds r b n w.now sender z.controller.mail y.controller.mail) first.2
          (subst (λ (z : Place Ctl). Holds r b n w.now sender (grown R from (messages_for sender requests)).controller.mail z.controller.mail) second.2
          (others_come r b n w.now sender from.controller to.controller (messages_for sender requests) (messages_for r requests)
          (λ k d lt. ((known sender k d lt).0, (known sender k d lt).1)) (λ k d lt. (known r k d lt).0) (omega arith) (served_at sender from to first.1 second.1)))
        where
          driven_below : (c : ℕ) → c < length (driven_world R w).places → ¬ (length R.controllers ≡ c)
          driven_below c within same =
              let one = deliveries-length R served requests in
              let two = changed-length 0 (driver_turn_in R w).controller_after w.places in
              omega (arith, within, same, one, two, fits.count)

    begun_at : (now next : ℕ) (places : List (Place Ctl)) → now < next → At now places → At next (map (begun_place R next) places)
    begun_at now next places later holds c x y at_c at_r =
        let first = mapped-from (begun_place R next) places c x at_c in
        let second = mapped-from (begun_place R next) places r y at_r in
        let from : Place Ctl = first.0 in
        let to : Place Ctl = second.0 in
        subst (λ (z : Place Ctl). Holds r b n next c z.controller.mail y.controller.mail) first.2
        (subst (λ (z : Place Ctl). Holds r b n next c (begun_place R next from).controller.mail z.controller.mail) second.2
        (begun_holds r b n now c next from.controller to.controller later (holds c from to first.1 second.1)))

    outcome_at : (k : ℕ) (w : World Ctl D) (st : Stepped Ctl D) → IsOutcome R k w st → WorldFits w → At w.now w.places → At st.world.now st.world.places
    outcome_at k w st (StopsAt c least_is) fits holds = holds
    outcome_at k w st (EndsWith v nobody comes) fits holds = driven_at w fits holds
    outcome_at k w st (ContinuesAt next nobody on) fits holds =
        let within = on.within in
        let later : w.now < next = within.next_cycle.later in
        begun_at w.now next (driven_world R w).places later (driven_at w fits holds)

    change_at : (history : List Event) (w : World Ctl D) (journal : List Entry) → IsRun R history w journal → w.verdict ≡ None → At w.now w.places
        → (e : Event) (st : Stepped Ctl D) → Change R (length journal) w e st → At st.world.now st.world.places
    change_at history w journal is_run running holds e st (Moves c q f m there move) = move_at history w journal is_run running holds c q f m there move
    change_at history w journal is_run running holds e st (Closes worker c idle least_is) = holds
    change_at history w journal is_run running holds e st (Turns worker idle least_is) =
        outcome_at (length journal) w st (change-outcome R (length journal) w e st (Turns worker idle least_is) refl)
        (fitting_runs.world-fits R Fits Suits Leads sound history w journal is_run) holds

    -- The opening.
    opening_at : At 0 (opening R).places
    opening_at c x y at_c at_r =
        let first = mapped-from opening_place R.controllers c x at_c in
        let second = mapped-from opening_place R.controllers r y at_r in
        let from = opened s.machines s.ranges 0 is.routes.total c first.0 is.routes.numbers.numbered first.1 in
        let to = opened s.machines s.ranges 0 is.routes.total r second.0 is.routes.numbers.numbered second.1 in
        subst (λ (z : Place Ctl). Holds r b n 0 c z.controller.mail y.controller.mail) first.2
        (subst (λ (z : Place Ctl). Holds r b n 0 c (first.0).mail z.controller.mail) second.2
        (subst (λ (z : Ctl). Holds r b n 0 c z.mail (second.0).mail) (sym from.is)
        (subst (λ (z : Ctl). Holds r b n 0 c (opening_ctl from.setup).mail z.mail) (sym to.is)
        (record { used = refl; within = omega arith }))))

    record IsSoFar (x : Ran Ctl D) : Type 0 where
      history : List Event
      is_run : IsRun R history x.world x.journal
      holds : At x.world.now x.world.places

    so_far : (x : Ran Ctl D) (e : Event) (st : Stepped Ctl D) → Goes R x e st → IsSoFar x → IsSoFar (with_step x st)
    so_far x e st goes is_so = record {
      history = is_so.history ++ e ∷ [];
      is_run = run-more R is_so.history e x.world x.journal st is_so.is_run goes.is;
      holds = change_at is_so.history x.world x.journal is_so.is_run goes.running is_so.holds e st goes.change;
    }

    pub held_along : (history : List Event) (w : World Ctl D) (journal : List Entry) → IsRun R history w journal → At w.now w.places
    held_along history w journal run =
        let ends = hold-along R IsSoFar so_far history w journal (record { history = []; is_run = refl; holds = opening_at }) run in ends.holds
