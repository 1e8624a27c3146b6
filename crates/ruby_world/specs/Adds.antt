-- What one worker adds to a run: each event that comes after those before is one that it does in the world that these lead to. So each
-- taking is of the least controller that is due, where nobody is held; each controller that was taken ends its wake-up before the next
-- one is taken; and none is released. Which events are lawful at all isn't said here.
use Rattle.std.specs.Prelude.{◌≡◌, ◌++◌, ◌∷◌, ℕ, List}
use Rattle.run_journal.specs.declared.entry.Entry.{Entry}
use Rattle.run_journal.specs.declared.event.Event.{Event}
use Rattle.protocol_runs.specs.Prelude.{IsAloneEvent, Rules, IsRun, World}
use Rattle.ruby_world.specs.Worlds.{WorldView, rules_in}
use Rattle.sequencer.specs.Prelude.{Drive, Seat}

module _ {C M D : Type 0} (r : Rules C M D) where
  pub record AddsAlone (before after : List Event) : Type 0 where
    pub added : List Event
    pub is : after ≡ before ++ added
    pub alone :
        (sofar rest : List Event) (e : Event) (w : World C D) (journal : List Entry)
        → added ≡ sofar ++ e ∷ rest → IsRun r (before ++ sofar) w journal → IsAloneEvent r w e

-- more of the same run has happened, and one worker has done it
pub record HasAddedAlone {D : Type 0} (drive : D → List Seat → ℕ → Drive D) (old new : WorldView D) : Type 0 where
  pub trees : new.trees ≡ old.trees
  pub topology : new.topology ≡ old.topology
  pub limits : new.limits ≡ old.limits
  pub opening : new.opening ≡ old.opening
  pub adds : AddsAlone (rules_in drive old) old.history new.history
