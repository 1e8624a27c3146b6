-- What a scan of a controller that is held ended with.
use Rattle.std.specs.Prelude.{ℕ, List}
use Rattle.ctl_face.specs.Prelude.{LocalView, scan_view}
use Rattle.ctl_store.specs.Prelude.{machine_of, me_of}
use Rattle.ruby_world.specs.declared.world.Held.{Held}
use Rattle.ruby_world.specs.declared.scanning.Scanned.{Scanned}
use Rattle.ruby_world.specs.declared.scanning.Scanned.TheVariants.{Fired, Ended}
use Rattle.ruby_world.specs.Held.{IsScanEnded, IsScanFired, ctl_in}
use Rattle.ruby_world.specs.Worlds.{WorldView}
use Rattle.sequencer.specs.Prelude.{Drive, Seat}

-- the local in which it begins
abbrev pub begun : Held → LocalView
begun h =
    scan_view (machine_of h.store) (record { me = me_of h.store; seed = h.seed; routes = h.routes }) h.cycle (ctl_in h)

abbrev pub IsScanned : {D : Type 0} → (drive : D → List Seat → ℕ → Drive D) → WorldView D → Held → Scanned → Type 0
IsScanned drive v h (Fired outcome) = IsScanFired drive v h outcome
IsScanned drive v h (Ended end stalled) = IsScanEnded drive v (record h { stalled = stalled }) end
