-- What a run needs of the meaning of a protocol: what a scan of a controller answers, by the number of its machine, the local as
-- the scan begins, and the most transitions that a controller may fire in a cycle; and for which states and events of a machine a
-- transition is written. And what such a scan must keep for the laws of runs to hold. It fires only where the controller has
-- fired fewer transitions in this cycle than it may, and leaves what acts leave of the local that it began in, told as these acts
-- tell it; where it rests, the controller is as it was, but for a mark for the next cycle where something stalled; and it stops
-- as `invalid` exactly where it tried a pair for which no transition is written, at that pair. Where it is full, or stops with
-- another fault, nothing is asked of it.
use Rattle.std.specs.Prelude.{◌≡◌, ◌⊎◌, ◌<◌, ◌+◌, ℕ, Bool, false, List, Contains}
use Rattle.ruby_value.specs.declared.fault.Fault.TheVariants.{Invalid}
use Rattle.ruby_value.specs.declared.message.Delivery.{Delivery}
use Rattle.ruby_value.specs.declared.setup.MachineSetup.{MachineSetup}
use Rattle.run_journal.specs.declared.entry.FireNote.{FireNote}
use Rattle.run_journal.specs.declared.entry.StopAt.{StopAt}
use Rattle.protocol_runs.specs.InvalidExactly.{invalid_at}
use Rattle.protocol_runs.specs.RunRules.{Acts, Fired, Idle, Scan, Stop, Tried}
use Rattle.ctl_face.specs.Acts as face
use Rattle.ctl_face.specs.declared.parcel.Parcel.{Parcel}
use Rattle.ctl_face.specs.Prelude.{with_wake_up, Ctl, Actor, LocalView, scan_view}
use Rattle.acts.specs.Prelude.{IsLeft}

pub record Meaning : Type 0 where
  pub scan : (machine : ℕ) → LocalView → (limit : ℕ) → Scan Ctl Parcel
  pub has_row : (machine state event : ℕ) → Bool

-- what acts have done to messages, as an entry tells it
abbrev pub acts_told : face.Acts → Acts
acts_told a = record {
  consumed = a.consumed;
  sent = a.sent;
  stalled = a.stalled;
  woken = a.woken;
  recycled = a.recycled;
}

-- a scan that began in this local has fired so
pub record IsFired (v : LocalView) (limit : ℕ) (acts : Acts) (copies : List (Delivery Parcel)) (after : Ctl) : Type 0 where
  pub few : v.ctl.fired < limit
  pub local : LocalView
  pub left : IsLeft v local
  pub acts_are : acts ≡ acts_told local.acts
  pub copies_are : copies ≡ local.acts.posted
  pub after_is : after ≡ local.ctl

-- the controller as a scan leaves it in which no port fired: without stall, or with one
abbrev pub Rests : LocalView → Ctl → Type 0
Rests v after = (after ≡ v.ctl) ⊎ (after ≡ with_wake_up v.ctl (v.now + 1))

-- a try of this scan for which no transition is written
pub record IsRefusedTry (has_row : ℕ → ℕ → Bool) (s : Scan Ctl Parcel) (t : Tried) : Type 0 where
  pub tried : Contains s.tried t
  pub no_row : has_row t.state t.event ≡ false

-- what a scan that began in this local may answer
pub record IsScanOf (v : LocalView) (limit : ℕ) (has_row : ℕ → ℕ → Bool) (s : Scan Ctl Parcel) : Type 0 where
  pub fires :
      (note : FireNote) (acts : Acts) (copies : List (Delivery Parcel)) (after : Ctl)
      → s.outcome ≡ Fired note acts copies after → IsFired v limit acts copies after
  pub idles : (after : Ctl) → s.outcome ≡ Idle after → Rests v after
  pub caused :
      (at : StopAt) → s.outcome ≡ Stop at → at.fault ≡ Invalid
      → (t : Tried) × (at ≡ invalid_at t) × IsRefusedTry has_row s t
  pub comes : (t : Tried) → IsRefusedTry has_row s t → s.outcome ≡ Stop (invalid_at t)

-- so is each scan of the protocol, whatever the machine's setup and the controller are
abbrev pub IsMeaning : Meaning → Type 0
IsMeaning p =
    (machine : ℕ) (setup : MachineSetup) (actor : Actor) (now limit : ℕ) (ctl : Ctl)
    → IsScanOf (scan_view setup actor now ctl) limit (p.has_row machine) (p.scan machine (scan_view setup actor now ctl) limit)
