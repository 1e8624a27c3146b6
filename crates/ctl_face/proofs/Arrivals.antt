-- Each copy that a send makes arrives after the cycle of the send.
use Rattle.std.proofs.Common.{◌≡◌, ℕ, ℤ, pos, negsuc, ◌+◌, ◌<◌, Bool, true, cond, not, max, List, [], ◌∷◌, Option, Some, None, Ok, Err, nat_abs, All, arith, unwrap_or, length, is_some, slice_get}
use Rattle.std.proofs.lemmas.Bool.{cond_both}
use Rattle.std.proofs.lemmas.List.Elements.{All-nil, All-cons, All-push}
use Rattle.std.specs.Bool.{nat_lt}
use Rattle.std.specs.List.{fold, list_all}
use Rattle.ruby_value.specs.declared.fault.Fault.TheVariants.{Latency, Route, Copies}
use Rattle.ruby_value.specs.declared.value.Value.{Value}
use Rattle.ruby_value.specs.declared.setup.BufferPlace.{BufferPlace}
use Rattle.ruby_value.specs.declared.setup.BufferSetup.{BufferSetup}
use Rattle.ruby_value.specs.declared.setup.MachineSetup.{MachineSetup}
use Rattle.ruby_value.specs.declared.setup.BufferPlace.TheVariants as place
use Rattle.ruby_value.specs.declared.message.Delivery.{Delivery}
use Rattle.ruby_value.specs.declared.message.Message.{Message}
use Rattle.ctl_face.specs.Prelude.{Mail, Actor, last_at, lasts_on, is_latency, receiving_buffer, path_to, is_ordered, Sending, next_copy, next_jitter, copy_limit, receivers_of, send, sending_from, sending_on, no_copies, with_network_copy, network_arrival, local_arrival, local_copy}
use Rattle.ctl_face.proofs.Cases.{Good, good_ok, good_err, good_cond, good_unless}

pub raised : (ordered : Bool) (arrival last now : ℕ) → now < arrival → now < cond ordered (max arrival last) arrival
raised ordered arrival last now above = cond_both ordered (max arrival last) arrival (λ t. now < t) (λ _. omega arith) (λ _. above)

pub positive : (latency : ℤ) → is_latency latency ≡ true → 0 < nat_abs latency
positive (pos n) is = grind arith
positive (negsuc n) is = cc

abbrev IsLater : ℕ → Delivery Message → Type 0
IsLater now c = now < c.message.arrival

abbrev Later : ℕ → Sending → Type 0
Later now s = All (IsLater now) s.copies

-- a copy on a network arrives after the cycle of the send
pub copy_later : (actor : Actor) (mail : Mail) (network latency now receiver : ℕ) → 0 < latency → now < network_arrival actor mail network latency now receiver
copy_later actor mail network latency now receiver some =
    let sum = now + latency + path_to actor.routes actor.me receiver + next_jitter actor mail in
    let last = last_at (lasts_on mail.network_last network) receiver in
    let in_time : now < sum = omega arith in
    raised (is_ordered actor.routes network) sum last now in_time

each_later : (actor : Actor) (network latency now : ℕ) (fields : List Value) → 0 < latency → (members : List ℕ) (s : Sending) → Later now s → Later now (fold (with_network_copy actor network latency fields now) s members)
each_later actor network latency now fields some [] s later = later
each_later actor network latency now fields some (receiver ∷ members) s later =
    let arrival = network_arrival actor s.mail network latency now receiver in
    let copy = next_copy actor s.mail receiver (unwrap_or (receiving_buffer actor.routes receiver network) 0) arrival fields in
    each_later actor network latency now fields some members (with_network_copy actor network latency fields now s receiver)
    (All-push (IsLater now) s.copies copy later (copy_later actor s.mail network latency now receiver some))

nothing_sent : (mail : Mail) (now : ℕ) → Later now (no_copies mail)
nothing_sent mail now = All-nil (IsLater now)

on_later : (p : BufferPlace) (ordered : Bool) (actor : Actor) (mail : Mail) (buffer latency : ℕ) (fields : List Value) (now : ℕ) → 0 < latency → Good (Later now) (sending_on p ordered actor mail buffer latency fields now)
on_later place.Local ordered actor mail buffer latency fields now some =
    let sending = local_copy actor ordered mail buffer latency fields now in
    let copy = next_copy actor mail actor.me buffer (local_arrival ordered mail buffer latency now) fields in
    let in_time : now < now + latency = omega arith in
    good_unless (Later now) (nat_lt copy_limit (mail.copies + 1)) Copies (Ok sending)
    (good_ok (Later now) sending (All-cons (IsLater now) copy [] (raised ordered (now + latency) (last_at mail.local_last buffer) now in_time) (All-nil (IsLater now))))
on_later (place.To network destination) ordered actor mail buffer latency fields now some =
    let members = receivers_of destination fields in
    let sending = fold (with_network_copy actor network latency fields now) (no_copies mail) members in
    good_unless (Later now) (not (list_all (λ receiver. is_some (receiving_buffer actor.routes receiver network)) members)) Route
    (cond (nat_lt copy_limit (mail.copies + length members)) (Err Copies) (Ok sending))
    (good_unless (Later now) (nat_lt copy_limit (mail.copies + length members)) Copies (Ok sending)
    (good_ok (Later now) sending (each_later actor network latency now fields some members (no_copies mail) (nothing_sent mail now))))
on_later (place.From network) ordered actor mail buffer latency fields now some = good_ok (Later now) (no_copies mail) (nothing_sent mail now)

from_later : (o : Option BufferSetup) (actor : Actor) (mail : Mail) (buffer latency : ℕ) (fields : List Value) (now : ℕ) → 0 < latency → Good (Later now) (sending_from o actor mail buffer latency fields now)
from_later None actor mail buffer latency fields now some = good_ok (Later now) (no_copies mail) (nothing_sent mail now)
from_later (Some s) actor mail buffer latency fields now some = on_later s.place s.ordered actor mail buffer latency fields now some

pub arrives_later : (machine : MachineSetup) (actor : Actor) (mail : Mail) (buffer : ℕ) (latency : ℤ) (fields : List Value) (now : ℕ) (s : Sending) → send machine actor mail buffer latency fields now ≡ Ok s → All (λ (c : Delivery Message). now < c.message.arrival) s.copies
arrives_later machine actor mail buffer latency fields now s =
    let o = slice_get machine.buffers buffer in
    (good_cond (Later now) (is_latency latency) (sending_from o actor mail buffer (nat_abs latency) fields now) (Err Latency)
    (λ is. from_later o actor mail buffer (nat_abs latency) fields now (positive latency is)) (λ _. good_err (Later now) Latency)).good s
