-- What two ended runs of one setting have in common, whoever did the events and in whatever order they came: the world, each controller's
-- entries, the turns, and all that is read off these. The order in which entries of different controllers stand in one cycle isn't among
-- it; in cycle order both journals are one. That is the journal of one run, which worker 0 makes alone.
use Rattle.std.specs.Prelude.{◌≡◌, ℕ, List, length}
use Rattle.std.specs.List.{filter}
use Rattle.run_journal.specs.declared.entry.Entry.{Entry}
use Rattle.run_journal.specs.declared.event.Event.{Event}
use Rattle.run_journal.specs.declared.summary.Final.{Final}
use Rattle.run_journal.specs.Prelude.{AreFinals, part_of}
use Rattle.cycle_order.specs.Prelude.{is_turned, ordered}
use Rattle.protocol_runs.specs.Prelude.{HasEnded, IsAlone, IsRun, Rules, World, account}

module _ {C M D : Type 0} (r : Rules C M D) where
  pub record AnswerAlike (w v : World C D) (journal told : List Entry) : Type 0 where
    pub world : w ≡ v
    pub part : (controller : ℕ) → part_of controller journal ≡ part_of controller told
    pub turns : filter is_turned journal ≡ filter is_turned told
    pub order : ordered journal ≡ ordered told
    pub count : length journal ≡ length told
    pub finals : (all : List Final) → AreFinals journal all → AreFinals told all
    pub account : account r journal w.places ≡ account r told v.places

  -- each ended run answers like this one
  abbrev pub IsEveryAnswer : World C D → List Entry → Type 0
  IsEveryAnswer w journal =
      (history : List Event) (v : World C D) (told : List Entry) → IsRun r history v told → HasEnded v → AnswerAlike w v journal told

  -- in cycle order the journal is that of a run that worker 0 makes alone, and that comes to this world
  pub record IsOne (w : World C D) (journal : List Entry) : Type 0 where
    pub history : List Event
    pub run : IsRun r history w (ordered journal)
    pub alone : IsAlone r history
