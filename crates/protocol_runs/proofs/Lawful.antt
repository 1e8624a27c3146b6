-- The laws of runs, for runs of a protocol.
use Rattle.std.proofs.Common.{◌≡◌, ◌+◌, ◌∙◌, ℕ, List, None, Some, ap, length, map, slice_get, sym}
use Rattle.std.proofs.lemmas.Option.{same_Some}
use Rattle.run_journal.specs.declared.entry.Entry.{Entry}
use Rattle.run_journal.specs.declared.event.Event.{Event}
use Rattle.protocol_runs.specs.Prelude.{IsAccounted, account, IsAlone, HasFreshNumbers, InvalidExactly, MarksStay, Stepped, step, HasEnded, IsRun, Ran, WakesOnce, Place, World, IsSetting, FitsRun, HasSeats, SuitsReceiver, IsMeaning, Meaning, rules, Setting, seats_in}
use Rattle.protocol_runs.proofs.Accounted as accounting
use Rattle.protocol_runs.proofs.Fitting as fitting
use Rattle.protocol_runs.proofs.Fresh.{fresh-numbers}
use Rattle.protocol_runs.proofs.Invalid as invalid
use Rattle.protocol_runs.proofs.Marks.{marks-stay}
use Rattle.protocol_runs.proofs.OneRun as one
use Rattle.protocol_runs.proofs.Woken as waking
use Rattle.ctl_face.specs.Prelude.{Ctl}
use Rattle.sequencer.specs.Prelude.{Drive, FitSeats, Seat}
use Rattle.protocol_runs.proofs.Driver.{IsDriver}
use Rattle.protocol_runs.proofs.Turns.{seats-fit}
use Rattle.protocol_runs.proofs.Premises.{carries_mail, keeps_marks, reports_invalid, sound}

pub one_end : {D : Type 0} (p : Meaning) (drive : D → List Seat → ℕ → Drive D) (s : Setting D) (history : List Event) (w v : World Ctl D) (journal told : List Entry)
    → IsRun (rules p drive s) history w journal → IsRun (rules p drive s) history v told → (w ≡ v) × (journal ≡ told)
one_end {D = D} p drive s history w v journal told is also =
    let same : ◌≡◌ {A = Ran Ctl D} (record { world = w; journal = journal }) (record { world = v; journal = told }) = same_Some _ _ (sym is ∙ also) in
    (ap (λ (r : Ran Ctl D). r.world) same, ap (λ (r : Ran Ctl D). r.journal) same)

module _ {D : Type 0} (drive : D → List Seat → ℕ → Drive D) (needs : D → ℕ → ℕ) (least : D → ℕ) (driver : IsDriver drive needs least)
    (p : Meaning) (s : Setting D) (means : IsMeaning p) (is : IsSetting least s) where
  -- what holds of each run
  abbrev OfRuns : (List Event → World Ctl D → List Entry → Type 0) → Type 0
  OfRuns P = (history : List Event) (w : World Ctl D) (journal : List Entry) → IsRun (rules p drive s) history w journal → P history w journal

  pub wakes_once : OfRuns (λ history w journal. WakesOnce (rules p drive s) history)
  wakes_once = waking.wakes-once (rules p drive s) (FitsRun s) (SuitsReceiver s) (HasSeats s least) (sound p drive needs least s means driver is)

  pub invalid_exactly : OfRuns (λ history w journal. InvalidExactly (rules p drive s) history journal)
  invalid_exactly =
      invalid.invalid-exactly (rules p drive s) (FitsRun s) (SuitsReceiver s) (HasSeats s least) (sound p drive needs least s means driver is)
      (reports_invalid p drive needs least s means driver is)

  pub accounted : OfRuns (λ history w journal. IsAccounted (rules p drive s) journal w)
  accounted =
      accounting.accounted (rules p drive s) (FitsRun s) (SuitsReceiver s) (HasSeats s least) (sound p drive needs least s means driver is)
      (carries_mail p drive needs least s means driver is)

  pub adds_up :
      OfRuns (λ history w journal.
      (account (rules p drive s) journal w.places).sent
      ≡ (account (rules p drive s) journal w.places).consumed + (account (rules p drive s) journal w.places).queued
      + (account (rules p drive s) journal w.places).stalled + (account (rules p drive s) journal w.places).recycled)
  adds_up =
      accounting.adds-up (rules p drive s) (FitsRun s) (SuitsReceiver s) (HasSeats s least) (sound p drive needs least s means driver is)
      (carries_mail p drive needs least s means driver is)

  pub fresh : OfRuns (λ history w journal. HasFreshNumbers (rules p drive s) w)
  fresh =
      fresh-numbers (rules p drive s) (FitsRun s) (SuitsReceiver s) (HasSeats s least) (sound p drive needs least s means driver is)
      (carries_mail p drive needs least s means driver is)

  pub marks_stay : (history : List Event) (e : Event) (w : World Ctl D) (journal : List Entry) (st : Stepped Ctl D) → IsRun (rules p drive s) history w journal
      → step (rules p drive s) (length journal) w e ≡ Some st → MarksStay (rules p drive s) w st.world
  marks_stay =
      marks-stay (rules p drive s) (FitsRun s) (SuitsReceiver s) (HasSeats s least) (sound p drive needs least s means driver is)
      (keeps_marks p drive needs least s means driver is)

  pub one_history : (history other : List Event) (w v : World Ctl D) (journal told : List Entry)
      → IsRun (rules p drive s) history w journal → HasEnded w → IsAlone (rules p drive s) history
      → IsRun (rules p drive s) other v told → HasEnded v → IsAlone (rules p drive s) other → history ≡ other
  one_history = one.one-history (rules p drive s) (FitsRun s) (SuitsReceiver s) (HasSeats s least) (sound p drive needs least s means driver is)

  pub seats_fit :
      (history : List Event) (w : World Ctl D) (journal : List Entry) → IsRun (rules p drive s) history w journal → w.verdict ≡ None
      → FitSeats (least w.driver) (seats_in s.seats (map (λ (place : Place Ctl). place.controller) w.places))
  seats_fit history w journal is_run running =
      let fits =
      fitting.world-fits (rules p drive s) (FitsRun s) (SuitsReceiver s) (HasSeats s least) (sound p drive needs least s means driver is) history w journal is_run in
      seats-fit p drive least s is w.driver (map (λ (place : Place Ctl). place.controller) w.places) w.now w.issued
      (fitting.asked-in (rules p drive s) (FitsRun s) (SuitsReceiver s) (HasSeats s least) (sound p drive needs least s means driver is) w running fits)

  pub all_fit : OfRuns (λ history w journal. (c : ℕ) (place : Place Ctl) → slice_get w.places c ≡ Some place → FitsRun s c place.controller w.now)
  all_fit = fitting.all-fit (rules p drive s) (FitsRun s) (SuitsReceiver s) (HasSeats s least) (sound p drive needs least s means driver is)
