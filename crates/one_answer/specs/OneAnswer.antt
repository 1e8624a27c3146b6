-- That a record has the one answer of its setting: of whatever ended run of it, by any number of workers and in any order of their events,
-- the record has the final states, the account, the verdict, the entries of each controller and the turns, and in cycle order the
-- journal. That journal is the one of a run that worker 0 makes alone.
use Rattle.std.specs.Prelude.{◌≡◌, ℕ, Some, List}
use Rattle.std.specs.List.{filter}
use Rattle.ctl_face.specs.Prelude.{Ctl}
use Rattle.run_journal.specs.declared.entry.Entry.{Entry}
use Rattle.run_journal.specs.declared.event.Event.{Event}
use Rattle.run_journal.specs.Prelude.{AreFinals, part_of}
use Rattle.cycle_order.specs.Prelude.{is_turned, ordered}
use Rattle.protocol_runs.specs.Prelude.{HasEnded, IsAlone, IsRun, World, account}
use Rattle.protocol_meaning.specs.declared.record.RunRecord.{RunRecord}
use Rattle.protocol_meaning.specs.Prelude.{rules_in}
use Rattle.sequencer.specs.Prelude.{Drive, Seat}

module _ {D : Type 0} (drive : D → List Seat → ℕ → Drive D) (driver : D) (r : RunRecord) where
  -- an ended run, with this world and journal, has the record's answers
  pub record IsAnsweredBy (w : World Ctl D) (journal : List Entry) : Type 0 where
    pub finals : AreFinals journal r.finals
    pub account : account (rules_in drive driver r) journal w.places ≡ r.account
    pub verdict : w.verdict ≡ Some r.verdict
    pub part : (controller : ℕ) → part_of controller journal ≡ part_of controller r.journal
    pub turns : filter is_turned journal ≡ filter is_turned r.journal
    pub order : ordered journal ≡ ordered r.journal

  pub record IsOneAnswer : Type 0 where
    -- each ended run has them
    pub every :
        (history : List Event) (w : World Ctl D) (journal : List Entry)
        → IsRun (rules_in drive driver r) history w journal → HasEnded w → IsAnsweredBy w journal
    -- and one that worker 0 makes alone has the record's journal in cycle order
    pub history : List Event
    pub world : World Ctl D
    pub run : IsRun (rules_in drive driver r) history world (ordered r.journal)
    pub ended : HasEnded world
    pub alone : IsAlone (rules_in drive driver r) history
