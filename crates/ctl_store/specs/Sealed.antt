-- What a sealed scan has: what it changes, which fits the controller that the scan began with, and what is told of its transition.
use Rattle.std.specs.Prelude.{◌≡◌}
use Rattle.run_journal.specs.declared.entry.FireNote.{FireNote}
use Rattle.ctl_face.specs.Prelude.{Acts, Ctl, LocalView}
use Rattle.ctl_store.specs.declared.outcome.Outcome.{Outcome}
use Rattle.ctl_store.specs.declared.parts.Parts.{Parts}
use Rattle.ctl_store.specs.Changed.{FitChanges, acts_of, changed_ctl}
use Rattle.ctl_store.specs.Room.{HasRoomForChanges}

-- the controller that it makes of one
abbrev pub outcome_ctl : Outcome → Ctl → Ctl
outcome_ctl o ctl = changed_ctl o.changes.value ctl

abbrev pub outcome_acts : Outcome → Acts
outcome_acts o = acts_of o.changes.value

abbrev pub note_of : Outcome → FireNote
note_of o = o.note

-- it can be applied to the controller
abbrev pub IsOutcomeFor : Outcome → Ctl → Type 0
IsOutcomeFor o ctl = FitChanges o.changes.value ctl

abbrev pub HasRoomForOutcome : Parts → Outcome → Type 0
HasRoomForOutcome p o = HasRoomForChanges p o.changes.value

-- it is what a scan with this view has done
pub record IsOutcomeOf (v : LocalView) (note : FireNote) (o : Outcome) : Type 0 where
  pub ctl : outcome_ctl o v.start ≡ v.ctl
  pub acts : outcome_acts o ≡ v.acts
  pub note_is : note_of o ≡ note
  pub fits : IsOutcomeFor o v.start
