-- What a scan answers is within an extent: the state, the event and the next state of a transition that fires, and what is known of one
-- at which it stops.
use Rattle.std.specs.Prelude.{IfSome}
use Rattle.ruby_symbols.specs.declared.machine.MachineSymbols.{MachineSymbols}
use Rattle.run_journal.specs.declared.entry.FireNote.{FireNote}
use Rattle.run_journal.specs.declared.entry.StopAt.{StopAt}
use Rattle.body_meaning.specs.declared.frame.RoundEnd.{RoundEnd}
use Rattle.body_meaning.specs.declared.frame.RoundEnd.TheVariants.{Fired, Idle, Full, Stop}
use Rattle.body_meaning.specs.Prelude.{Scanned}
use Rattle.protocol_meaning.specs.Prelude.{Extent, IsMember}
use Rattle.protocol_meaning.proofs.Bounds.{Bounds, ViewWithin}

module _ (e : Extent) (m : MachineSymbols) where
  pub record NoteWithin (note : FireNote) : Type 0 where
    pub state : IsMember e m.states note.state
    pub event : IsMember e m.events note.event
    pub next : IsMember e m.states note.next

  pub record StopWithin (at : StopAt) : Type 0 where
    pub event : IfSome at.event (IsMember e m.events)
    pub state : IfSome at.state (IsMember e m.states)

  abbrev pub EndWithin : RoundEnd → Type 0
  EndWithin (Fired note) = NoteWithin note
  EndWithin Idle = Unit {0}
  EndWithin Full = Unit {0}
  EndWithin (Stop at) = StopWithin at

pub record ScanWithin (b : Bounds) (m : MachineSymbols) (s : Scanned) : Type 0 where
  pub end : EndWithin b.extent m s.end
  pub view : ViewWithin b s.view
