-- A run by one worker. Each event is worker 0's; a controller is taken where nobody is held, and it is the least one that
-- is due; none is given back before its wake-up ends. So one thread wakes the due controllers in increasing number.
-- That one thread does so is this project's own rule; which events are lawful at all isn't said here.
use Rattle.std.specs.Prelude.{◌≡◌, ℕ, false, Some, List, ◌∷◌, ◌++◌, position}
use Rattle.std.specs.List.{list_any}
use Rattle.run_journal.specs.declared.entry.Entry.{Entry}
use Rattle.run_journal.specs.declared.event.Event.{Event}
use Rattle.run_journal.specs.declared.event.Event.TheVariants.{Take, Fire, Done, Release, Turn}
use Rattle.protocol_runs.specs.RunRules.{Rules}
use Rattle.protocol_runs.specs.World.{World, is_free, is_held}
use Rattle.protocol_runs.specs.Run.{IsRun}

module _ {C M D : Type 0} (r : Rules C M D) where
  -- the one worker takes the least controller that is due, and holds no other
  pub record IsNextTake (w : World C D) (worker c : ℕ) : Type 0 where
    pub worker_0 : worker ≡ 0
    pub nobody : list_any is_held w.places ≡ false
    pub least : position (is_free r w.now) w.places ≡ Some c

  -- one worker does this in this world
  abbrev pub IsAloneEvent : World C D → Event → Type 0
  IsAloneEvent w (Take worker c) = IsNextTake w worker c
  IsAloneEvent w (Fire worker c) = worker ≡ 0
  IsAloneEvent w (Done worker c) = worker ≡ 0
  IsAloneEvent w (Release worker c) = ⊥
  IsAloneEvent w (Turn worker) = worker ≡ 0

  -- over a history: each event is one that one worker does in the world that it comes to
  abbrev pub IsAlone : List Event → Type 0
  IsAlone history =
      (before after : List Event) (e : Event) (w : World C D) (journal : List Entry)
      → history ≡ before ++ e ∷ after → IsRun r before w journal → IsAloneEvent w e
