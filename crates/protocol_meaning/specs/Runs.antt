-- What holds of each run of a protocol with n controllers: what each controller holds is within what the protocol declares and the run
-- has, and the states and events of its journal's entries are those of the controller's machine.
use Rattle.std.specs.Prelude.{◌<◌, ℕ, IfSome, IsSomeAnd, List, length, slice_get}
use Rattle.std.specs.Option.{option_and_then}
use Rattle.ruby_symbols.specs.declared.machine.MachineSymbols.{MachineSymbols}
use Rattle.run_journal.specs.declared.entry.End.{End}
use Rattle.run_journal.specs.declared.entry.End.TheVariants as end
use Rattle.run_journal.specs.declared.entry.Entry.{Entry}
use Rattle.run_journal.specs.declared.entry.Entry.TheVariants as entry
use Rattle.run_journal.specs.declared.entry.FireNote.{FireNote}
use Rattle.run_journal.specs.declared.entry.StopAt.{StopAt}
use Rattle.slicc_ast.specs.declared.tree.item.Tree.{Tree}
use Rattle.slicc_plan.specs.Prelude.{symbols_of}
use Rattle.ctl_face.specs.Prelude.{Ctl}
use Rattle.protocol_runs.specs.Prelude.{machine_of}
use Rattle.protocol_meaning.specs.Extent.{Extent, members_of}
use Rattle.protocol_meaning.specs.Held.{HoldsWithin}

-- what the protocol declares, and n controllers
abbrev pub declared_extent : List Tree → (controllers : ℕ) → Extent
declared_extent trees controllers = record { enumerations = (symbols_of trees).enumerations; controllers = controllers }

module _ (trees : List Tree) (ranges : List (ℕ × ℕ)) (controllers : ℕ) where
  -- of the machine of a controller
  abbrev pub AtMachine : (controller : ℕ) → (MachineSymbols → Type 0) → Type 0
  AtMachine controller P = IsSomeAnd (option_and_then (λ machine. slice_get (symbols_of trees).machines machine) (machine_of ranges controller)) P

  abbrev pub ControllerWithin : (controller : ℕ) → Ctl → Type 0
  ControllerWithin controller x = AtMachine controller (λ m. HoldsWithin (declared_extent trees controllers) m.states x)

  -- a state and an event of a machine, by their numbers
  abbrev pub IsState : MachineSymbols → ℕ → Type 0
  IsState m state = state < length (members_of (declared_extent trees controllers) m.states)

  abbrev pub IsEvent : MachineSymbols → ℕ → Type 0
  IsEvent m event = event < length (members_of (declared_extent trees controllers) m.events)

  -- of a transition that has fired
  pub record IsNote (m : MachineSymbols) (note : FireNote) : Type 0 where
    pub state : IsState m note.state
    pub event : IsEvent m note.event
    pub next : IsState m note.next

  -- of a stop, as far as it is known
  pub record IsStop (m : MachineSymbols) (at : StopAt) : Type 0 where
    pub event : IfSome at.event (IsEvent m)
    pub state : IfSome at.state (IsState m)

  abbrev pub IsEnd : MachineSymbols → End → Type 0
  IsEnd m end.Idle = Unit {0}
  IsEnd m end.Full = Unit {0}
  IsEnd m (end.Stop at) = IsStop m at

  abbrev pub EntryWithin : Entry → Type 0
  EntryWithin (entry.Fired cycle controller note consumed sent stalled woken recycled) = AtMachine controller (λ m. IsNote m note)
  EntryWithin (entry.Ended cycle controller end) = AtMachine controller (λ m. IsEnd m end)
  EntryWithin (entry.Turned cycle issued finding verdict) = Unit {0}
