-- What calls do to a world's data, and that it is a step of the run. All else stays.
use Rattle.std.specs.Prelude.{◌≡◌, ◌≤◌, ℕ, Option, Some, List, [], ◌∷◌, ◌++◌, length}
use Rattle.std.specs.Option.{option_to_list}
use Rattle.run_journal.specs.declared.entry.Entry.{Entry}
use Rattle.run_journal.specs.declared.event.Event.{Event}
use Rattle.run_journal.specs.Prelude.{KeepsRoom}
use Rattle.protocol_runs.specs.Prelude.{step, Meaning, rules, Setting}
use Rattle.ctl_face.specs.Prelude.{Ctl}
use Rattle.sequencer.specs.Prelude.{Drive, Seat}
use Rattle.world_state.specs.Places.{made_in, places_with}
use Rattle.world_state.specs.declared.state.State.{State}
use Rattle.world_state.specs.States.{world_of}

-- the cycle, the driver and the verdict stay
pub record SameCycle {D : Type 0} (old new : State D) : Type 0 where
  pub now : new.now ≡ old.now
  pub driver : new.driver ≡ old.driver
  pub issued : new.issued ≡ old.issued
  pub next : new.next ≡ old.next
  pub verdict : new.verdict ≡ old.verdict

-- these are written in the book
pub record Writes {D : Type 0} (old new : State D) (e : Event) (entry : Option Entry) : Type 0 where
  pub history : new.book.history ≡ old.book.history ++ e ∷ []
  pub journal : new.book.journal ≡ old.book.journal ++ option_to_list entry

-- nothing has changed, but for room
pub record IsSame {D : Type 0} (old new : State D) : Type 0 where
  pub cycle : SameCycle old new
  pub places : (held : Ctl) → places_with held new.places.items ≡ places_with held old.places.items
  pub made : made_in new.places.items ≡ made_in old.places.items
  pub history : new.book.history ≡ old.book.history
  pub journal : new.book.journal ≡ old.book.journal
  pub room : old.book.event_room ≤ new.book.event_room
  pub entry_room : KeepsRoom 0 0 0 old.book.entry_room new.book.entry_room

-- one lawful event of the run, where the held controllers before and after it are these
pub record IsStep {D : Type 0} (p : Meaning) (drive : D → List Seat → ℕ → Drive D) (s : Setting D) (held : Ctl) (old : State D) (e : Event) (held_after : Ctl) (new : State D) : Type 0 where
  pub entry : Option Entry
  pub is : step (rules p drive s) (length old.book.journal) (world_of held old) e ≡ Some (record { world = world_of held_after new; entry = entry })
  pub writes : Writes old new e entry
