-- What code that does a scan answers, and leaves of the local that it was given, by what the scan is. Only a scan that fires has its
-- acts in that local; of one that rests the local says nothing but whether a transition was stalled, so that who owns the controller
-- may drop all else; and of one that is full or stops it says nothing. Without memory nothing is said.
use Rattle.std.specs.Prelude.{◌≡◌, Result, Ok, Err}
use Rattle.ruby_base.specs.declared.memory.NoMemory.{NoMemory}
use Rattle.ctl_face.specs.Prelude.{LocalView}
use Rattle.body_meaning.specs.declared.frame.RoundEnd.{RoundEnd}
use Rattle.body_meaning.specs.declared.frame.RoundEnd.TheVariants.{Fired, Idle, Full, Stop}
use Rattle.body_meaning.specs.Scan.{Scanned, left_idle}

-- the local after the code and the one before it
abbrev pub IsRoundOf : Scanned → Result RoundEnd NoMemory → (after before : LocalView) → Type 0
IsRoundOf scanned (Ok (Fired note)) after before = (scanned.end ≡ Fired note) × (scanned.view ≡ after)
IsRoundOf scanned (Ok Idle) after before = (scanned.end ≡ Idle) × (scanned.view ≡ left_idle before after)
IsRoundOf scanned (Ok Full) after before = scanned.end ≡ Full
IsRoundOf scanned (Ok (Stop at)) after before = scanned.end ≡ Stop at
IsRoundOf scanned (Err error) after before = Unit {0}
