-- An event is lawful exactly where it is one of the cases of a change: the only walk over the definition of a step.
use Rattle.std.proofs.Common.{◌≡◌, ◌+◌, ℕ, Bool, true, false, Option, None, Some, [], refl, ◌∙◌, ap, subst, cond, is_none, slice_get}
use Rattle.std.proofs.lemmas.Bool.{eqb-true, eq-eqb, cond-true, cond-false}
use Rattle.std.proofs.lemmas.Option.{same_Some, cond_some}
use Rattle.std.specs.List.{list_any}
use Rattle.run_journal.specs.declared.entry.End.TheVariants as end
use Rattle.run_journal.specs.declared.event.Event.{Event}
use Rattle.run_journal.specs.declared.event.Event.TheVariants.{Take, Fire, Done, Release, Turn}
use Rattle.run_journal.specs.declared.entry.End.{End}
use Rattle.run_journal.specs.declared.verdict.Verdict.{Verdict}
use Rattle.protocol_runs.specs.Prelude.{Rules, Outcome, Full, Fired, Stop, Idle, Place, World, is_free, least_stopped, Stepped, Moved, is_holder, held_by, held_by_nobody, take, fired_by, fire, ended_by, done, given_back, release, with_moved, moved, at_place, is_busy, turn_by, step_lawfully, step, is_turn, Ends, Idled, Filled, Halted, Move, Taken, FiredBy, EndedBy, Released, IsIdle, Change, Moves, Closes, Turns}

pub holder-is : (worker : ℕ) (holder : Option ℕ) → is_holder worker holder ≡ true → holder ≡ Some worker
holder-is worker None is = absurd (cc is)
holder-is worker (Some other) is = ap (λ (k : ℕ). Some k) (eqb-true other worker is)

module _ {C M D : Type 0} (r : Rules C M D) where
  take-moves : (now worker c : ℕ) (p : Place C) (m : Moved C M) → take r now worker p ≡ Some m → Move r now c p (Take worker c) m
  take-moves now worker c p m is =
      let both = cond_some (is_free r now p) _ m is in
      subst (Move r now c p (Take worker c)) both.1 (Taken worker both.0)

  fired-moves : (now worker c : ℕ) (p : Place C) (m : Moved C M) (o : Outcome C M) → (r.scan c p.controller now).outcome ≡ o
      → p.holder ≡ Some worker → fired_by r now c p o ≡ Some m → Move r now c p (Fire worker c) m
  fired-moves now worker c p m (Fired note acts copies after) scanned holds is =
      subst (Move r now c p (Fire worker c)) (same_Some _ m is) (FiredBy worker note acts copies after holds scanned)
  fired-moves now worker c p m Full scanned holds is = absurd (cc is)
  fired-moves now worker c p m (Stop at) scanned holds is = absurd (cc is)
  fired-moves now worker c p m (Idle after) scanned holds is = absurd (cc is)

  ended-moves : (now worker c : ℕ) (p : Place C) (m : Moved C M) (o : Outcome C M) → (r.scan c p.controller now).outcome ≡ o
      → p.holder ≡ Some worker → ended_by r now c p.controller o ≡ Some m → Move r now c p (Done worker c) m
  ended-moves now worker c p m Full scanned holds is =
      subst (Move r now c p (Done worker c)) (same_Some _ m is) (EndedBy worker (r.with_mark p.controller (now + 1)) end.Full holds (Filled scanned))
  ended-moves now worker c p m (Fired note acts copies after) scanned holds is = absurd (cc is)
  ended-moves now worker c p m (Stop at) scanned holds is =
      subst (Move r now c p (Done worker c)) (same_Some _ m is) (EndedBy worker (r.with_stop p.controller at) (end.Stop at) holds (Halted at scanned))
  ended-moves now worker c p m (Idle after) scanned holds is =
      subst (Move r now c p (Done worker c)) (same_Some _ m is) (EndedBy worker after end.Idle holds (Idled after scanned))

  release-moves : (now worker c : ℕ) (p : Place C) (m : Moved C M) → release r worker p ≡ Some m → Move r now c p (Release worker c) m
  release-moves now worker c p m is =
      let both = cond_some (is_holder worker p.holder) _ m is in
      subst (Move r now c p (Release worker c)) both.1 (Released worker (holder-is worker p.holder both.0))

  when : {X : Type 0} (b : Bool) (o : Option X) (x : X) → cond b o None ≡ Some x → (b ≡ true) × (o ≡ Some x)
  when true o x is = (refl, is)
  when false o x is = absurd (cc is)

  fire-moves : (now worker c : ℕ) (p : Place C) (m : Moved C M) → fire r now worker c p ≡ Some m → Move r now c p (Fire worker c) m
  fire-moves now worker c p m is =
      let both = when (is_holder worker p.holder) _ m is in
      fired-moves now worker c p m _ refl (holder-is worker p.holder both.0) both.1

  done-moves : (now worker c : ℕ) (p : Place C) (m : Moved C M) → done r now worker c p ≡ Some m → Move r now c p (Done worker c) m
  done-moves now worker c p m is =
      let both = when (is_holder worker p.holder) _ m is in
      ended-moves now worker c p m _ refl (holder-is worker p.holder both.0) both.1

  moved-changes : (n : ℕ) (w : World C D) (e : Event) (c : ℕ) (p : Place C) (o : Option (Moved C M)) (st : Stepped C D) → slice_get w.places c ≡ Some p
      → ((m : Moved C M) → o ≡ Some m → Move r w.now c p e m) → moved r w c o ≡ Some st → Change r n w e st
  moved-changes n w e c p None st there moves is = absurd (cc is)
  moved-changes n w e c p (Some m) st there moves is = subst (Change r n w e) (same_Some _ st is) (Moves c p e m there (moves m refl))

  at-changes : (n : ℕ) (w : World C D) (e : Event) (c : ℕ) (move : Place C → Option (Moved C M)) (o : Option (Place C)) (st : Stepped C D)
      → slice_get w.places c ≡ o → ((p : Place C) (m : Moved C M) → move p ≡ Some m → Move r w.now c p e m)
      → at_place r w c move o ≡ Some st → Change r n w e st
  at-changes n w e c move None st there moves is = absurd (cc is)
  at-changes n w e c move (Some p) st there moves is = moved-changes n w e c p (move p) st there (moves p) is

  turn_by-changes : (n : ℕ) (w : World C D) (worker : ℕ) (stopped : Option ℕ) (st : Stepped C D) → IsIdle r w → least_stopped r w.places ≡ stopped
      → turn_by r n w stopped ≡ st → Change r n w (Turn worker) st
  turn_by-changes n w worker (Some c) st idle least is = subst (Change r n w (Turn worker)) is (Closes worker c idle least)
  turn_by-changes n w worker None st idle least is = subst (Change r n w (Turn worker)) is (Turns worker idle least)

  turn-changes : (n : ℕ) (w : World C D) (worker : ℕ) (busy : Bool) (st : Stepped C D) → list_any (is_busy r w.now) w.places ≡ busy
      → cond busy None (Some (turn_by r n w (least_stopped r w.places))) ≡ Some st → Change r n w (Turn worker) st
  turn-changes n w worker true st idle is = absurd (cc is)
  turn-changes n w worker false st idle is = turn_by-changes n w worker (least_stopped r w.places) st idle refl (same_Some _ st is)

  lawful-changes : (n : ℕ) (w : World C D) (e : Event) (st : Stepped C D) → step_lawfully r n w e ≡ Some st → Change r n w e st
  lawful-changes n w (Take worker c) st is = at-changes n w (Take worker c) c (take r w.now worker) _ st refl (λ p m. take-moves w.now worker c p m) is
  lawful-changes n w (Fire worker c) st is = at-changes n w (Fire worker c) c (fire r w.now worker c) _ st refl (λ p m. fire-moves w.now worker c p m) is
  lawful-changes n w (Done worker c) st is = at-changes n w (Done worker c) c (done r w.now worker c) _ st refl (λ p m. done-moves w.now worker c p m) is
  lawful-changes n w (Release worker c) st is = at-changes n w (Release worker c) c (release r worker) _ st refl (λ p m. release-moves w.now worker c p m) is
  lawful-changes n w (Turn worker) st is = turn-changes n w worker _ st refl is

  -- a lawful event is a change, of a world without a verdict
  pub step-changes : (n : ℕ) (w : World C D) (e : Event) (st : Stepped C D) → step r n w e ≡ Some st → Change r n w e st
  unfolding step
  step-changes n w e st is = let both = when (is_none w.verdict) _ st is in lawful-changes n w e st both.1

  pub step-running : (n : ℕ) (w : World C D) (e : Event) (st : Stepped C D) → step r n w e ≡ Some st → w.verdict ≡ None
  unfolding step
  step-running n w e st is = let both = when (is_none w.verdict) _ st is in none w.verdict both.0 where
    none : {X : Type 0} (o : Option X) → is_none o ≡ true → o ≡ None
    none None is_none = refl
    none (Some x) not_none = absurd (cc not_none)

  -- an event of a controller is no turn
  pub move-quiet : (now c : ℕ) (p : Place C) (e : Event) (m : Moved C M) → Move r now c p e m → is_turn e ≡ false
  move-quiet now c p e m (Taken worker free) = refl
  move-quiet now c p e m (FiredBy worker note acts copies after holds is) = refl
  move-quiet now c p e m (EndedBy worker after end holds ends) = refl
  move-quiet now c p e m (Released worker holds) = refl

  -- and the other way round
  holds-is : (worker : ℕ) (holder : Option ℕ) → holder ≡ Some worker → is_holder worker holder ≡ true
  holds-is worker holder is = ap (λ (o : Option ℕ). is_holder worker o) is ∙ eq-eqb worker worker refl

  at-place : (w : World C D) (c : ℕ) (p : Place C) (move : Place C → Option (Moved C M)) (m : Moved C M) → slice_get w.places c ≡ Some p → move p ≡ Some m
      → at_place r w c move (slice_get w.places c) ≡ Some (record { world = with_moved r w c m; entry = m.entry })
  at-place w c p move m there is =
      ap (λ (o : Option (Place C)). at_place r w c move o) there ∙ ap (λ (o : Option (Moved C M)). moved r w c o) is

  takes : (now worker c : ℕ) (p : Place C) → is_free r now p ≡ true
      → take r now worker p ≡ Some (record { place = held_by worker p; copies = []; entry = None })
  takes now worker c p free = cond-true (is_free r now p) _ None free

  releases : (worker : ℕ) (p : Place C) → p.holder ≡ Some worker
      → release r worker p ≡ Some (record { place = held_by_nobody p; copies = []; entry = None })
  releases worker p holds = cond-true (is_holder worker p.holder) _ None (holds-is worker p.holder holds)

  fires : (now worker c : ℕ) (p : Place C) (o : Outcome C M) (m : Moved C M) → p.holder ≡ Some worker → (r.scan c p.controller now).outcome ≡ o
      → fired_by r now c p o ≡ Some m → fire r now worker c p ≡ Some m
  fires now worker c p o m holds scanned is =
      cond-true (is_holder worker p.holder) _ None (holds-is worker p.holder holds) ∙ ap (λ (x : Outcome C M). fired_by r now c p x) scanned ∙ is

  dones : (now worker c : ℕ) (p : Place C) (o : Outcome C M) (m : Moved C M) → p.holder ≡ Some worker → (r.scan c p.controller now).outcome ≡ o
      → ended_by r now c p.controller o ≡ Some m → done r now worker c p ≡ Some m
  dones now worker c p o m holds scanned is =
      cond-true (is_holder worker p.holder) _ None (holds-is worker p.holder holds) ∙ ap (λ (x : Outcome C M). ended_by r now c p.controller x) scanned ∙ is

  end-dones : (now worker c : ℕ) (p : Place C) (after : C) (e : End) → p.holder ≡ Some worker → Ends r c now p.controller after e
      → done r now worker c p ≡ Some (given_back r now c after e)
  end-dones now worker c p after e holds (Idled x is) = dones now worker c p (Idle x) _ holds is refl
  end-dones now worker c p after e holds (Filled is) = dones now worker c p Full _ holds is refl
  end-dones now worker c p after e holds (Halted at is) = dones now worker c p (Stop at) _ holds is refl

  move-lawful : (n : ℕ) (w : World C D) (c : ℕ) (p : Place C) (e : Event) (m : Moved C M) → slice_get w.places c ≡ Some p → Move r w.now c p e m
      → step_lawfully r n w e ≡ Some (record { world = with_moved r w c m; entry = m.entry })
  move-lawful n w c p e m there (Taken worker free) = at-place w c p (take r w.now worker) m there (takes w.now worker c p free)
  move-lawful n w c p e m there (FiredBy worker note acts copies after holds is) =
      at-place w c p (fire r w.now worker c) m there (fires w.now worker c p (Fired note acts copies after) m holds is refl)
  move-lawful n w c p e m there (EndedBy worker after end holds ends) =
      at-place w c p (done r w.now worker c) m there (end-dones w.now worker c p after end holds ends)
  move-lawful n w c p e m there (Released worker holds) = at-place w c p (release r worker) m there (releases worker p holds)

  change-lawful : (n : ℕ) (w : World C D) (e : Event) (st : Stepped C D) → Change r n w e st → step_lawfully r n w e ≡ Some st
  change-lawful n w e st (Moves c p f m there move) = move-lawful n w c p e m there move
  change-lawful n w e st (Closes worker c idle least) =
      cond-false (list_any (is_busy r w.now) w.places) None _ idle ∙ ap (λ (o : Option ℕ). Some (turn_by r n w o)) least
  change-lawful n w e st (Turns worker idle least) =
      cond-false (list_any (is_busy r w.now) w.places) None _ idle ∙ ap (λ (o : Option ℕ). Some (turn_by r n w o)) least

  pub change-steps : (n : ℕ) (w : World C D) (e : Event) (st : Stepped C D) → w.verdict ≡ None → Change r n w e st → step r n w e ≡ Some st
  unfolding step
  change-steps n w e st running change =
      cond-true (is_none w.verdict) _ None (ap (λ (o : Option Verdict). is_none o) running) ∙ change-lawful n w e st change
