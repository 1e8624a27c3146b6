-- Where a network keeps order, what is sent first arrives first: of two sends of a controller on buffers to the network, no copy of
-- the second one arrives at a receiver before a copy of the first one there. Whatever was done between the two, also in other
-- cycles, may not have lowered the last arrivals on the network, which are what a send goes by. Two copies may arrive in one cycle;
-- since numbers ascend from send to send, a buffer's front is the one that was sent first.
use Rattle.std.specs.Prelude.{◌≡◌, ◌<◌, ◌≤◌, ℕ, ℤ, true, List, Option, Ok, Some, Contains, length, slice_get}
use Rattle.ruby_value.specs.declared.setup.BufferPlace.TheVariants as place
use Rattle.ruby_value.specs.declared.setup.BufferSetup.{BufferSetup}
use Rattle.ruby_value.specs.declared.setup.MachineSetup.{MachineSetup}
use Rattle.ruby_value.specs.declared.value.Value.{Value}
use Rattle.ruby_value.specs.declared.message.Delivery.{Delivery}
use Rattle.ruby_value.specs.declared.message.Message.{Message}
use Rattle.ctl_face.specs.Ctl.{Mail}
use Rattle.ctl_face.specs.Lasts.{last_at, lasts_on}
use Rattle.ctl_face.specs.LocalView.{Actor}
use Rattle.ctl_face.specs.Routing.{is_ordered}
use Rattle.ctl_face.specs.Send.{Sending, send}

-- what a controller with this mail sends on some buffer to the network
pub record IsSentTo (network : ℕ) (machine : MachineSetup) (actor : Actor) (mail : Mail) (s : Sending) : Type 0 where
  pub buffer : ℕ
  pub on : BufferSetup
  pub destination : Option ℕ
  pub latency : ℤ
  pub fields : List Value
  pub now : ℕ
  pub there : slice_get machine.buffers buffer ≡ Some on
  pub to_network : on.place ≡ place.To network destination
  pub sent : send machine actor mail buffer latency fields now ≡ Ok s

abbrev pub ArriveInOrder : (first second : List (Delivery Message)) → Type 0
ArriveInOrder first second =
    (a b : Delivery Message) → Contains first a → Contains second b → a.receiver ≡ b.receiver
    → a.message.arrival ≤ b.message.arrival

-- a later mail of the same controller, in which no last arrival on the network is lower
abbrev pub KeepsLasts : (network : ℕ) → (earlier later : Mail) → Type 0
KeepsLasts network earlier later =
    (receiver : ℕ)
    → last_at (lasts_on earlier.network_last network) receiver ≤ last_at (lasts_on later.network_last network) receiver

-- the network is ordered, and the mail has last arrivals for it, as that of a lawful local has
pub record IsOrdered (network : ℕ) (actor : Actor) (mail : Mail) : Type 0 where
  pub ordered : is_ordered actor.routes network ≡ true
  pub within : network < length mail.network_last

abbrev pub SendsKeepOrder : (network : ℕ) → MachineSetup → Actor → Mail → Type 0
SendsKeepOrder network machine actor mail =
    IsOrdered network actor mail → (first second : Sending) (later : Mail)
    → IsSentTo network machine actor mail first → KeepsLasts network first.mail later
    → IsSentTo network machine actor later second → ArriveInOrder first.copies second.copies
