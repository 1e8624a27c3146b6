-- A local as a scan begins: the controller is the one that the scan begins with, and nothing was done to messages yet.
use Rattle.std.specs.Prelude.{ℕ, [], false}
use Rattle.ruby_value.specs.declared.setup.MachineSetup.{MachineSetup}
use Rattle.ctl_face.specs.Acts.{Acts}
use Rattle.ctl_face.specs.Ctl.{Ctl}
use Rattle.ctl_face.specs.LocalView.{Actor, LocalView}

abbrev pub no_acts : Acts
no_acts = record { consumed = []; stalled = []; woken = []; recycled = []; sent = []; posted = []; again = false }

abbrev pub scan_view : MachineSetup → Actor → ℕ → Ctl → LocalView
scan_view machine actor now ctl = record { machine = machine; actor = actor; now = now; start = ctl; ctl = ctl; acts = no_acts }
