-- A copy fits its receiver in a run: the receiver is a controller of one of the machines, and the copy is in a buffer of that
-- machine whose messages have fields of the same kinds. Nothing is said of its number.
use Rattle.std.specs.Prelude.{◌≡◌, ℕ, ℤ, List, Ok, IsSomeAnd, slice_get}
use Rattle.std.specs.List.{All}
use Rattle.ruby_value.specs.declared.setup.MachineSetup.{MachineSetup}
use Rattle.ruby_value.specs.declared.value.Value.{Value}
use Rattle.ruby_value.specs.declared.message.Delivery.{Delivery}
use Rattle.ruby_value.specs.declared.message.Message.{Message}
use Rattle.ctl_face.specs.Ctl.{Mail}
use Rattle.ctl_face.specs.LocalView.{Actor}
use Rattle.ctl_face.specs.OfMachine.{TakesFields}
use Rattle.ctl_face.specs.RoutesFit.{IsOfMachine}
use Rattle.ctl_face.specs.Send.{Sending, send}

-- by the first controller of each machine and how many it has
pub record FitsReceiver (machines : List MachineSetup) (ranges : List (ℕ × ℕ)) (c : Delivery Message) : Type 0 where
  pub machine : ℕ
  pub of_machine : IsOfMachine ranges machine c.receiver
  pub takes : IsSomeAnd (slice_get machines machine) (λ (m : MachineSetup). TakesFields m.buffers c.message.buffer c.message.fields)

-- each copy that a controller of this machine sends fits its receiver, whatever it sent before
abbrev pub SendsFit : (machines : List MachineSetup) (ranges : List (ℕ × ℕ)) → MachineSetup → Actor → Type 0
SendsFit machines ranges m actor =
    (mail : Mail) (buffer : ℕ) (latency : ℤ) (fields : List Value) (now : ℕ) (s : Sending)
    → TakesFields m.buffers buffer fields → send m actor mail buffer latency fields now ≡ Ok s
    → All (FitsReceiver machines ranges) s.copies
