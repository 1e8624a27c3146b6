-- The definitions that other files name, from one place.
pub use Rattle.ctl_store.specs.Answered.{as_trouble}
pub use Rattle.ctl_store.specs.Changed.{FitCalls, FitChanges, acts_of, after_calls, changed_ctl}
pub use Rattle.ctl_store.specs.Drafted.{view_of}
pub use Rattle.ctl_store.specs.Kept.{IsKept, ctl_of, machine_of, me_of, requests_of}
pub use Rattle.ctl_store.specs.Lending.{with_sequencer}
pub use Rattle.ctl_store.specs.Room.{HasRoomForChanges, HasRoomForMark, HasRoomForParcels, IsSameStore, KeepsRoom}
pub use Rattle.ctl_store.specs.Scanned.{IsScan, Scanned, local_of, scanned}
pub use Rattle.ctl_store.specs.Takes.{Takes}
pub use Rattle.ctl_store.specs.Sealed.{HasRoomForOutcome, IsOutcomeFor, IsOutcomeOf, note_of, outcome_acts, outcome_ctl}
