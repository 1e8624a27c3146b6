-- A run: a list of events, each lawful in the world that the ones before it lead to from the opening. The history
-- determines the world and the journal. A run has ended where a verdict stands.
use Rattle.std.specs.Prelude.{◌≡◌, Option, None, Some, List, [], ◌++◌, fold, length, IsSome}
use Rattle.std.specs.Option.{option_to_list}
use Rattle.run_journal.specs.declared.entry.Entry.{Entry}
use Rattle.run_journal.specs.declared.event.Event.{Event}
use Rattle.protocol_runs.specs.RunRules.{Rules}
use Rattle.protocol_runs.specs.World.{World, opening}
use Rattle.protocol_runs.specs.Step.{Stepped, step}

-- the world after the events, and their entries in order
pub record Ran (C D : Type 0) : Type 0 where
  pub world : World C D
  pub journal : List Entry

abbrev pub ran_on : {C D : Type 0} → List Entry → Option (Stepped C D) → Option (Ran C D)
ran_on journal None = None
ran_on journal (Some s) = Some (record { world = s.world; journal = journal ++ option_to_list s.entry })

module _ {C M D : Type 0} (r : Rules C M D) where
  -- one event more; none where an event isn't lawful
  abbrev pub go_on : Option (Ran C D) → Event → Option (Ran C D)
  go_on None e = None
  go_on (Some ran) e = ran_on ran.journal (step r (length ran.journal) ran.world e)

  abbrev pub start : Ran C D
  start = record { world = opening r; journal = [] }

  abbrev pub run : List Event → Option (Ran C D)
  run history = fold go_on (Some start) history

  abbrev pub IsRun : List Event → World C D → List Entry → Type 0
  IsRun history w journal = run history ≡ Some (record { world = w; journal = journal })

abbrev pub HasEnded : {C D : Type 0} → World C D → Type 0
HasEnded w = IsSome w.verdict
