-- The laws of schedules, for runs of a protocol.
use Rattle.std.proofs.Common.{◌≡◌, ℕ, None, List}
use Rattle.run_journal.specs.declared.entry.Entry.{Entry}
use Rattle.run_journal.specs.declared.event.Event.{Event}
use Rattle.ctl_face.specs.Prelude.{Ctl}
use Rattle.cycle_order.specs.Prelude.{ordered}
use Rattle.sequencer.specs.Prelude.{Drive, Seat}
use Rattle.protocol_runs.specs.Prelude.{FitsRun, HasEnded, HasSeats, IsAlone, IsFramedMeaning, IsIdle, IsMeaning, IsRun, IsSetting, Meaning, Setting, SuitsReceiver, World, rules}
use Rattle.protocol_runs.proofs.Driver.{IsDriver}
use Rattle.protocol_runs.proofs.Framings.{runs-framed}
use Rattle.protocol_runs.proofs.Premises.{carries_mail, sound}
use Rattle.schedule_laws.specs.Prelude.{ActsExchange, IsEveryAnswer, IsOne}
use Rattle.schedule_laws.proofs.Alike as laws
use Rattle.schedule_laws.proofs.Swapped.{arrivals-swap}

module _ {D : Type 0} (drive : D → List Seat → ℕ → Drive D) (needs : D → ℕ → ℕ) (least : D → ℕ) (driver : IsDriver drive needs least)
    (p : Meaning) (s : Setting D) (means : IsMeaning p) (framed : IsFramedMeaning p) (is : IsSetting least s) where
  pub acts_exchange : ActsExchange (rules p drive s)
  acts_exchange =
      laws.acts-exchange (rules p drive s) (FitsRun s) (SuitsReceiver s) (HasSeats s least) (sound p drive needs least s means driver is)
      (carries_mail p drive needs least s means driver is) (runs-framed p drive least s is framed) (arrivals-swap p drive s)

  pub is_one : (history : List Event) (w : World Ctl D) (journal : List Entry) → IsRun (rules p drive s) history w journal → HasEnded w → IsOne (rules p drive s) w journal
  is_one =
      laws.is-one (rules p drive s) (FitsRun s) (SuitsReceiver s) (HasSeats s least) (sound p drive needs least s means driver is)
      (carries_mail p drive needs least s means driver is) (runs-framed p drive least s is framed) (arrivals-swap p drive s)

  pub is_one_idle : (history : List Event) (w : World Ctl D) (journal : List Entry) → IsRun (rules p drive s) history w journal → w.verdict ≡ None → IsIdle (rules p drive s) w → IsOne (rules p drive s) w journal
  is_one_idle =
      laws.is-one-idle (rules p drive s) (FitsRun s) (SuitsReceiver s) (HasSeats s least) (sound p drive needs least s means driver is)
      (carries_mail p drive needs least s means driver is) (runs-framed p drive least s is framed) (arrivals-swap p drive s)

  pub every_answer : laws.FinalsFollow → (history : List Event) (w : World Ctl D) (journal : List Entry) → IsRun (rules p drive s) history w journal → HasEnded w → IsEveryAnswer (rules p drive s) w journal
  every_answer follow history w journal ran ended other v told also closed =
      laws.answers-alike (rules p drive s) (FitsRun s) (SuitsReceiver s) (HasSeats s least) (sound p drive needs least s means driver is)
      (carries_mail p drive needs least s means driver is) (runs-framed p drive least s is framed) (arrivals-swap p drive s)
      follow history other w v journal told ran ended also closed

  pub alone_ordered : (history : List Event) (w : World Ctl D) (journal : List Entry) → IsRun (rules p drive s) history w journal → HasEnded w → IsAlone (rules p drive s) history → ordered journal ≡ journal
  alone_ordered =
      laws.alone-ordered (rules p drive s) (FitsRun s) (SuitsReceiver s) (HasSeats s least) (sound p drive needs least s means driver is)
      (carries_mail p drive needs least s means driver is) (runs-framed p drive least s is framed) (arrivals-swap p drive s)
