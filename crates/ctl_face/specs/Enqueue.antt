-- A send in a local: the controller has the sender's mail after it, a note of each copy follows those of the copies that were
-- sent before, and the copies for others follow those that were posted before.
use Rattle.std.specs.Prelude.{ℕ, ℤ, List, ◌++◌, ◌==◌, not, map, filter, Result, Ok, Err}
use Rattle.ruby_value.specs.declared.fault.Fault.{Fault}
use Rattle.ruby_value.specs.declared.value.Value.{Value}
use Rattle.ruby_value.specs.declared.message.Delivery.{Delivery}
use Rattle.ruby_value.specs.declared.message.Message.{Message}
use Rattle.ctl_face.specs.Acts.{sent_of}
use Rattle.ctl_face.specs.declared.parcel.Parcel.{Parcel}
use Rattle.ctl_face.specs.LocalView.{LocalView}
use Rattle.ctl_face.specs.Parcels.{with_message_parcel}
use Rattle.ctl_face.specs.Send.{Sending, send}

-- the copies that aren't for the controller itself
abbrev pub for_others : ℕ → List (Delivery Message) → List (Delivery Message)
for_others me copies = filter (λ (c : Delivery Message). not (c.receiver == me)) copies

abbrev pub parcels_for_others : ℕ → List (Delivery Message) → List (Delivery Parcel)
parcels_for_others me copies = map with_message_parcel (for_others me copies)

abbrev pub after_sending : LocalView → Result Sending Fault → Result LocalView Fault
after_sending v (Ok s) = Ok (record v {
  ctl = record v.ctl { mail = s.mail };
  acts = record v.acts { sent = v.acts.sent ++ map sent_of s.copies; posted = v.acts.posted ++ parcels_for_others v.actor.me s.copies };
})
after_sending v (Err fault) = Err fault

abbrev pub enqueue : LocalView → ℕ → ℤ → List Value → Result LocalView Fault
enqueue v buffer latency fields = after_sending v (send v.machine v.actor v.ctl.mail buffer latency fields v.now)
