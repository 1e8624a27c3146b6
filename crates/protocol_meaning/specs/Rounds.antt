-- What a run has of a scan that code has done, by how it ended and by the local after it and before it. Of one that fires this is what
-- was done to messages; of one in which nothing fires it is the controller as it was, but for the mark of a stall. And that a scan that
-- fires goes on in the same scan.
use Rattle.protocol_runs.specs.Prelude.{Outcome}
use Rattle.ctl_face.specs.declared.parcel.Parcel.{Parcel}
use Rattle.ctl_face.specs.Prelude.{Ctl, LocalView, SameScan}
use Rattle.body_meaning.specs.declared.frame.RoundEnd.{RoundEnd}
use Rattle.body_meaning.specs.declared.frame.RoundEnd.TheVariants.{Fired, Idle}
use Rattle.body_meaning.specs.Prelude.{left_idle}
use Rattle.protocol_meaning.specs.Meaning.{outcome_by}

-- the local that a scan leaves, where code that did it has left this one
abbrev pub local_left : RoundEnd → (after before : LocalView) → LocalView
local_left Idle after before = left_idle before after
local_left _ after before = after

abbrev pub outcome_of_round : RoundEnd → (after before : LocalView) → Outcome Ctl Parcel
outcome_of_round end after before = outcome_by end (local_left end after before)

-- the local after a scan that has fired is in the same scan as the one before it
abbrev pub StaysIfFired : RoundEnd → (after before : LocalView) → Type 0
StaysIfFired (Fired note) after before = SameScan before after
StaysIfFired _ after before = Unit {0}
