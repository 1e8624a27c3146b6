-- The controller after a wake-up that ended so, where its last scan was told to wake it again or not. A full controller wakes again in
-- the next cycle.
use Rattle.std.specs.Prelude.{◌+◌, ℕ, Bool, true, false}
use Rattle.run_journal.specs.declared.entry.End.{End}
use Rattle.run_journal.specs.declared.entry.End.TheVariants.{Idle, Full, Stop}
use Rattle.ctl_face.specs.Prelude.{with_stop, with_wake_up, Ctl}

abbrev pub rested : Bool → ℕ → Ctl → Ctl
rested true now x = with_wake_up x (now + 1)
rested false now x = x

abbrev pub ended : (stalled : Bool) (now : ℕ) → Ctl → End → Ctl
ended stalled now x Idle = rested stalled now x
ended stalled now x Full = with_wake_up x (now + 1)
ended stalled now x (Stop at) = with_stop x
