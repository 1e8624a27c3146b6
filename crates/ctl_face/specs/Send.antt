-- A send: the sender's mail after it and the copies, or the fault. One copy goes into a buffer of the sender's
-- own. On a buffer to a network one copy goes to each receiver that the message names, in increasing number; each has
-- a number of its own and a jitter drawn for it alone, where the network has jitter. A copy arrives after the latency,
-- the path and the jitter; where order is kept, no copy arrives before the one sent last from here to there. Each copy to a buffer with a
-- size takes a slot there, and none is refused for want of one: that is asked before the actions of a transition.
-- Latencies, networks and order are gem5's; numbers, draws, slots, and order kept by raising an arrival are this project's own.
use Rattle.std.specs.Prelude.{ℕ, ℤ, Bool, false, Option, None, Some, List, [], ◌∷◌, ◌++◌, ◌+◌, ◌==◌, Result, Ok, Err, not, max, nat_abs, nat_lt, length, slice_get, is_some, unwrap_or, if◌then◌else◌}
use Rattle.std.specs.FinMap as map
use Rattle.std.specs.List.{fold, list_all}
use Rattle.ruby_value.specs.declared.fault.Fault.{Fault}
use Rattle.ruby_value.specs.declared.fault.Fault.TheVariants.{Latency, Route, Copies}
use Rattle.ruby_value.specs.declared.setup.BufferPlace.TheVariants as place
use Rattle.ruby_value.specs.declared.setup.BufferPlace.{BufferPlace}
use Rattle.ruby_value.specs.declared.setup.BufferSetup.{BufferSetup}
use Rattle.ruby_value.specs.declared.setup.MachineSetup.{MachineSetup}
use Rattle.ruby_value.specs.declared.value.Value.{Value}
use Rattle.ruby_value.specs.declared.value.Value.TheVariants.{Dest}
use Rattle.ruby_value.specs.declared.message.Delivery.{Delivery}
use Rattle.ruby_value.specs.declared.message.Message.{Message}
use Rattle.ruby_value.specs.Prelude.{with_member}
use Rattle.ctl_face.specs.Ctl.{Mail}
use Rattle.ctl_face.specs.Lasts.{last_at, lasts_on, with_last}
use Rattle.ctl_face.specs.Latency.{is_latency}
use Rattle.ctl_face.specs.LocalView.{Actor}
use Rattle.ctl_face.specs.Mailing.{mail_with_delivery}
use Rattle.ctl_face.specs.Routing.{receiving_buffer, path_to, is_ordered}
use Rattle.ctl_face.specs.Slots.{lent_after}
use Rattle.pcg_words.specs.Prelude.{below}

-- the sender's mail after some copies, and these copies in the order of their numbers
pub record Sending : Type 0 where
  pub mail : Mail
  pub copies : List (Delivery Message)

-- the most copies that a controller may send in one cycle
abbrev pub copy_limit : ℕ
copy_limit = 4096

-- the controllers of a set of controllers, in increasing number, each once
abbrev pub members_of : Option Value → List ℕ
members_of (Some (Dest members)) = fold with_member [] members
members_of _ = []

-- those that the field of a message names, if it has one for them
abbrev pub receivers_of : Option ℕ → List Value → List ℕ
receivers_of None fields = []
receivers_of (Some destination) fields = members_of (slice_get fields destination)

-- the next copy of a controller
abbrev pub next_copy : Actor → Mail → ℕ → ℕ → ℕ → List Value → Delivery Message
next_copy actor mail receiver buffer arrival fields = record {
  receiver = receiver;
  message = record {
    number = record { sender = actor.me; count = mail.sent };
    buffer = buffer;
    arrival = arrival;
    recycled = false;
    fields = fields;
  };
}

-- the sender's mail after one copy more, which it may have sent to itself
abbrev pub mail_with_copy : Actor → Mail → Delivery Message → Mail
mail_with_copy actor mail copy =
    record (mail_with_delivery (copy.receiver == actor.me) mail copy.message) {
      sent = mail.sent + 1;
      copies = mail.copies + 1;
      lent = lent_after actor.routes mail.lent copy.receiver copy.message.buffer;
    }

-- the jitter of the next network copy, for which a word is drawn where the network has any
abbrev pub has_jitter : Actor → Bool
has_jitter actor = nat_lt 0 actor.routes.jitter

abbrev pub next_jitter : Actor → Mail → ℕ
next_jitter actor mail = if has_jitter actor then below actor.seed actor.me mail.drawn (actor.routes.jitter + 1) else 0

-- when the next copy to a receiver on a network arrives
abbrev pub network_arrival : Actor → Mail → ℕ → ℕ → ℕ → ℕ → ℕ
network_arrival actor mail network latency now receiver =
    let arrival = now + latency + path_to actor.routes actor.me receiver + next_jitter actor mail in
    if is_ordered actor.routes network then max arrival (last_at (lasts_on mail.network_last network) receiver) else arrival

-- the mail after what a network copy takes besides its number: a word, and the arrival that the next one may not come before
abbrev pub after_network_copy : Actor → Mail → ℕ → ℕ → ℕ → Mail
after_network_copy actor mail network receiver arrival = record mail {
  drawn = if has_jitter actor then mail.drawn + 1 else mail.drawn;
  network_last = if is_ordered actor.routes network then with_last mail.network_last network receiver arrival else mail.network_last;
}

-- one copy more to a receiver on a network
abbrev pub with_network_copy : Actor → ℕ → ℕ → List Value → ℕ → Sending → ℕ → Sending
with_network_copy actor network latency fields now s receiver =
    let arrival = network_arrival actor s.mail network latency now receiver in
    let buffer = unwrap_or (receiving_buffer actor.routes receiver network) 0 in
    let copy = next_copy actor s.mail receiver buffer arrival fields in
    record {
      mail = after_network_copy actor (mail_with_copy actor s.mail copy) network receiver arrival;
      copies = s.copies ++ copy ∷ [];
    }

-- when the next copy in a buffer of the controller's own arrives
abbrev pub local_arrival : Bool → Mail → ℕ → ℕ → ℕ → ℕ
local_arrival ordered mail buffer latency now =
    if ordered then max (now + latency) (last_at mail.local_last buffer) else now + latency

-- the one copy in a buffer of the controller's own
abbrev pub local_copy : Actor → Bool → Mail → ℕ → ℕ → List Value → ℕ → Sending
local_copy actor ordered mail buffer latency fields now =
    let arrival = local_arrival ordered mail buffer latency now in
    let copy = next_copy actor mail actor.me buffer arrival fields in
    record {
      mail = record (mail_with_copy actor mail copy) {
        local_last = if ordered then map.insert mail.local_last buffer arrival else mail.local_last;
      };
      copies = copy ∷ [];
    }

abbrev pub no_copies : Mail → Sending
no_copies mail = record { mail = mail; copies = [] }

-- the copies for all receivers, if each has a buffer there and they aren't too many
abbrev pub network_copies : Actor → ℕ → List ℕ → Mail → ℕ → List Value → ℕ → Result Sending Fault
network_copies actor network members mail latency fields now =
    if not (list_all (λ receiver. is_some (receiving_buffer actor.routes receiver network)) members) then Err Route
    else (if nat_lt copy_limit (mail.copies + length members) then Err Copies
    else Ok (fold (with_network_copy actor network latency fields now) (no_copies mail) members))

abbrev pub sending_on : BufferPlace → Bool → Actor → Mail → ℕ → ℕ → List Value → ℕ → Result Sending Fault
sending_on place.Local ordered actor mail buffer latency fields now =
    if nat_lt copy_limit (mail.copies + 1) then Err Copies else Ok (local_copy actor ordered mail buffer latency fields now)
sending_on (place.To network destination) ordered actor mail buffer latency fields now =
    network_copies actor network (receivers_of destination fields) mail latency fields now
sending_on (place.From network) ordered actor mail buffer latency fields now = Ok (no_copies mail)

abbrev pub sending_from : Option BufferSetup → Actor → Mail → ℕ → ℕ → List Value → ℕ → Result Sending Fault
sending_from None actor mail buffer latency fields now = Ok (no_copies mail)
sending_from (Some s) actor mail buffer latency fields now = sending_on s.place s.ordered actor mail buffer latency fields now

-- The latency is judged first, also where nobody is named. Nothing is sent on a buffer that only takes messages in, and
-- no program does so.
abbrev pub send : MachineSetup → Actor → Mail → ℕ → ℤ → List Value → ℕ → Result Sending Fault
send machine actor mail buffer latency fields now =
    if is_latency latency then sending_from (slice_get machine.buffers buffer) actor mail buffer (nat_abs latency) fields now
    else Err Latency
