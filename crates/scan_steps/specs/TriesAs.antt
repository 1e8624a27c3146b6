-- What a function of the code does and answers, by the part of a scan that it is to be: where it answers well, the part ends with what
-- the answer means, and leaves the local that there is afterwards; where it answers a stop, the part stops so. Without memory nothing is
-- said, and after an error nothing of the local, which its scan drops.
use Rattle.std.specs.Prelude.{◌≡◌, ℕ, IsErr, Result, Ok, Err, nat_le, if◌then◌else◌}
use Rattle.ruby_base.specs.declared.memory.NoMemory.{NoMemory}
use Rattle.ctl_face.specs.declared.trouble.Trouble.{Trouble}
use Rattle.ctl_face.specs.declared.trouble.Trouble.TheVariants as trouble
use Rattle.ctl_face.specs.Prelude.{LocalView}
use Rattle.body_meaning.specs.declared.frame.RoundEnd.{RoundEnd}
use Rattle.body_meaning.specs.declared.frame.RoundEnd.TheVariants as round
use Rattle.body_meaning.specs.declared.frame.Known.{Known}
use Rattle.body_meaning.specs.declared.frame.Tried.{Tried}
use Rattle.body_meaning.specs.declared.frame.Tried.TheVariants.{Waits, Fires}
use Rattle.body_meaning.specs.Prelude.{Scanned, Trying, by_outcome, run_scan, stop_at}
use Rattle.scan_steps.specs.declared.halt.Halt.{Halt}
use Rattle.scan_steps.specs.declared.halt.Halt.TheVariants as halt

unfoldable pub TriesAs : {A R : Type 0} → (R → A) → Trying A → Result R Halt → LocalView → LocalView → Type 0
TriesAs means p (Ok r) old new = run_scan p old ≡ Ok (record { value = means r; view = new })
TriesAs means p (Err (halt.Stop at)) old new = run_scan p old ≡ Err at
TriesAs means p (Err halt.NoMemory) old new = Unit {0}

-- the answer of a body, where this is known of the transition
abbrev pub told : {R : Type 0} → Known → Result R Trouble → Result R Halt
told k (Ok r) = Ok r
told k (Err (trouble.Fault fault)) = Err (halt.Stop (stop_at k fault))
told k (Err trouble.NoMemory) = Err halt.NoMemory

-- how a scan ends whose ports answer this
abbrev pub IsEndOf : Result Tried Halt → Result RoundEnd NoMemory → Type 0
IsEndOf (Ok (Fires note)) end = end ≡ Ok (round.Fired note)
IsEndOf (Ok Waits) end = end ≡ Ok round.Idle
IsEndOf (Err (halt.Stop at)) end = end ≡ Ok (round.Stop at)
IsEndOf (Err halt.NoMemory) end = IsErr end

-- of a controller that has fired this many transitions in this cycle and may fire so many, by what its ports do
abbrev pub scanned : Trying Tried → (limit fired_before : ℕ) → LocalView → Scanned
scanned ports limit fired_before v =
    if nat_le limit fired_before then (record { end = round.Full; view = v }) else by_outcome v (run_scan ports v)
