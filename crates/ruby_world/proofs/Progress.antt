-- How far an event brings a run that one worker makes: in a wake-up the cycle stays, and no controller is finished before it ends, and
-- then one more is; a turn leads to a later cycle within the bound, or to a verdict. Where a verdict stands nobody is held.
use Rattle.std.proofs.Common.{◌≡◌, ◌<◌, ◌+◌, cond, ◌++◌, ℕ, Bool, true, false, List, [], ◌∷◌, Option, None, Some, length, refl, sym, ◌∙◌, ap, not, slice_get, slice_set, is_none, arith}
use Rattle.std.specs.Prelude.{count_by}
use Rattle.std.proofs.lemmas.Option.{same_Some}
use Rattle.run_journal.specs.declared.entry.Entry.{Entry}
use Rattle.run_journal.specs.declared.event.Event.{Event}
use Rattle.run_journal.specs.declared.event.Event.TheVariants.{Take, Fire, Done, Release, Turn}
use Rattle.run_journal.specs.declared.verdict.Verdict.{Verdict}
use Rattle.protocol_runs.specs.Prelude.{Change, Closes, EndedBy, FiredBy, Move, Moves, Released, Taken, Turns, ContinuesAt, EndsWith, IsOutcome, StopsAt, Rules, IsRun, Ran, Moved, Stepped, step, with_moved, Place, World}
use Rattle.protocol_runs.proofs.Outcomes.{turn-outcome}
use Rattle.protocol_runs.proofs.Runs.{headed, rest-path, with_step}
use Rattle.protocol_runs.proofs.Steps.{step-changes, step-running}
use Rattle.ruby_world.specs.Prelude.{Finishes, Stays, cycles_left, is_unfinished, unfinished}
use Rattle.ruby_world.proofs.Frames.{count-fewer, count-same, set-frame}
use Rattle.ruby_world.proofs.Holders.{deliveries-aside}

-- an event that ends neither a wake-up nor a cycle
abbrev pub stays : Event → Bool
stays (Take worker c) = true
stays (Fire worker c) = true
stays (Done worker c) = false
stays (Release worker c) = true
stays (Turn worker) = false

module _ {C M D : Type 0} (r : Rules C M D) where
  -- the event with which a run goes on
  pub last-step : (history : List Event) (e : Event) (w v : World C D) (journal told : List Entry) → IsRun r history w journal → IsRun r (history ++ e ∷ []) v told
      → (st : Stepped C D) × (step r (length journal) w e ≡ Some st) × (v ≡ st.world)
  last-step history e w v journal told so_far whole =
      let x : Ran C D = record { world = w; journal = journal } in
      let y : Ran C D = record { world = v; journal = told } in
      let (st, goes, rest) = headed r x (e ∷ []) y (rest-path r history (e ∷ []) w v journal told so_far whole) in
      let same : with_step x st ≡ y = headed r (with_step x st) [] y rest in
      (st, goes.is, sym (ap (λ (z : Ran C D). z.world) same))

  -- an event of a controller
  moved-count : (w : World C D) (c : ℕ) (m : Moved C M) → unfinished (with_moved r w c m) ≡ count_by is_unfinished (slice_set w.places c m.place)
  moved-count w c m =
      count-same is_unfinished (with_moved r w c m).places (slice_set w.places c m.place)
      (deliveries-aside is_unfinished (λ p x. refl) r (slice_set w.places c m.place) m.copies)

  move-stays : (w : World C D) (c : ℕ) (p : Place C) (e : Event) (m : Moved C M) → slice_get w.places c ≡ Some p → Move r w.now c p e m → stays e ≡ true
      → m.place.finished ≡ p.finished
  move-stays w c p e m there (Taken worker free) is = refl
  move-stays w c p e m there (FiredBy worker note acts copies after holds fires) is = refl
  move-stays w c p e m there (EndedBy worker after end holds ends) is = absurd (cc is)
  move-stays w c p e m there (Released worker holds) is = refl

  change-stays : (n : ℕ) (w : World C D) (e : Event) (st : Stepped C D) → Change r n w e st → stays e ≡ true → Stays w st.world
  change-stays n w e st (Moves c p f m there move) is =
      let same = move-stays w c p f m there move is in
      record {
        now = refl;
        count =
            moved-count w c m
            ∙ count-same is_unfinished (slice_set w.places c m.place) w.places
            (set-frame is_unfinished w.places c p m.place there (ap (λ (b : Bool). not b) same));
      }
  change-stays n w e st (Closes worker c idle least) is = absurd (cc is)
  change-stays n w e st (Turns worker idle least) is = absurd (cc is)

  pub step-stays : (n : ℕ) (w : World C D) (e : Event) (st : Stepped C D) → step r n w e ≡ Some st → stays e ≡ true → Stays w st.world
  step-stays n w e st is quiet = change-stays n w e st (step-changes r n w e st is) quiet

  -- the end of a wake-up
  module _ (worker c : ℕ) (q : Place C) (goes : q.finished ≡ false) where
    move-finishes : (w : World C D) (d : ℕ) (p : Place C) (e : Event) (m : Moved C M) → slice_get w.places d ≡ Some p → slice_get w.places c ≡ Some q
        → Move r w.now d p e m → e ≡ Done worker c → unfinished (with_moved r w d m) + 1 ≡ unfinished w
    move-finishes w d p e m there at (Taken k free) is = absurd (cc is)
    move-finishes w d p e m there at (FiredBy k note acts copies after holds fires) is = absurd (cc is)
    move-finishes w d p e m there at (EndedBy k after end holds ends) is =
        let number : d ≡ c = cc is in
        let place : p ≡ q = same_Some p q (sym there ∙ ap (λ (i : ℕ). slice_get w.places i) number ∙ at) in
        let before : is_unfinished p ≡ true = ap (λ (x : Place C). not x.finished) place ∙ ap (λ (b : Bool). not b) goes in
        ap (λ (n : ℕ). n + 1) (moved-count w d m)
        ∙ count-fewer is_unfinished w.places d p m.place there before refl
    move-finishes w d p e m there at (Released k holds) is = absurd (cc is)

    change-finishes : (n : ℕ) (w : World C D) (e : Event) (st : Stepped C D) → slice_get w.places c ≡ Some q → Change r n w e st → e ≡ Done worker c → Finishes w st.world
    change-finishes n w e st at (Moves d p f m there move) is = record { now = refl; fewer = move-finishes w d p f m there at move is }
    change-finishes n w e st at (Closes k d idle least) is = absurd (cc is)
    change-finishes n w e st at (Turns k idle least) is = absurd (cc is)

    pub step-finishes : (n : ℕ) (w : World C D) (st : Stepped C D) → slice_get w.places c ≡ Some q → step r n w (Done worker c) ≡ Some st → Finishes w st.world
    step-finishes n w st at is = change-finishes n w (Done worker c) st at (step-changes r n w (Done worker c) st is) refl

  -- a turn
  outcome-left : (n : ℕ) (w : World C D) (st : Stepped C D) → IsOutcome r n w st → w.verdict ≡ None → cycles_left r.cycles st.world < cycles_left r.cycles w
  outcome-left n w st (StopsAt c least) running =
      let goes : ◌≡◌ {A = ℕ} (cond (is_none w.verdict) 1 0) 1 = ap (λ (o : Option Verdict). cond (is_none o) 1 0) running in omega (arith, goes)
  outcome-left n w st (EndsWith v none comes) running =
      let goes : ◌≡◌ {A = ℕ} (cond (is_none w.verdict) 1 0) 1 = ap (λ (o : Option Verdict). cond (is_none o) 1 0) running in omega (arith, goes)
  outcome-left n w st (ContinuesAt next none goes) running =
      let above = goes.within.next_cycle in omega (arith, above.later, goes.within.bound)

  pub turn-left : (n : ℕ) (w : World C D) (worker : ℕ) (st : Stepped C D) → step r n w (Turn worker) ≡ Some st → cycles_left r.cycles st.world < cycles_left r.cycles w
  turn-left n w worker st is = outcome-left n w st (turn-outcome r n w worker st is) (step-running r n w (Turn worker) st is)
