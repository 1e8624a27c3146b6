-- What an act keeps: a local that it makes of a lawful one is lawful, and between scans a controller goes on fitting its machine.
-- An act that may end in a fault makes a local only where it doesn't.
use Rattle.std.specs.Prelude.{◌≡◌, ℕ, Result, Ok}
use Rattle.ruby_value.specs.declared.fault.Fault.{Fault}
use Rattle.ruby_value.specs.declared.setup.MachineSetup.{MachineSetup}
use Rattle.ctl_face.specs.Ctl.{Ctl}
use Rattle.ctl_face.specs.Fits.{Fits, IsLawful}
use Rattle.ctl_face.specs.LocalView.{LocalView}

-- an act that never ends in a fault
abbrev pub AlwaysKeeps : (LocalView → LocalView) → Type 0
AlwaysKeeps act = (v : LocalView) → IsLawful v → IsLawful (act v)

abbrev pub Keeps : (LocalView → Result LocalView Fault) → Type 0
Keeps act = (v after : LocalView) → IsLawful v → act v ≡ Ok after → IsLawful after

-- an act that is for such locals alone
abbrev pub KeepsWhere : (LocalView → Type 0) → (LocalView → Result LocalView Fault) → Type 0
KeepsWhere P act = (v after : LocalView) → P v → IsLawful v → act v ≡ Ok after → IsLawful after

abbrev pub KeepsFits : (Ctl → Ctl) → Type 0
KeepsFits change =
    (machine : MachineSetup) (me now : ℕ) (ctl : Ctl) → Fits machine me ctl now → Fits machine me (change ctl) now
