-- The marks that an act sets lie ahead.
use Rattle.std.proofs.Common.{◌≡◌, ◌<◌, ◌⊎◌, inl, inr, ℕ, ℤ, ◌+◌, Bool, true, false, cond, not, Option, None, Some, List, [], ◌∷◌, Result, Ok, Err, nat_abs, refl, arith, length, is_some, unwrap_or, slice_get}
use Rattle.std.proofs.lemmas.List.Elements.{All-contains_itself, All-weaker}
use Rattle.std.specs.Bool.{nat_lt}
use Rattle.std.specs.List.{fold, list_all, Contains}
use Rattle.ruby_value.specs.declared.fault.Fault.{Fault}
use Rattle.ruby_value.specs.declared.fault.Fault.TheVariants.{Front, Latency, Route, Copies}
use Rattle.ruby_value.specs.declared.message.Message.{Message}
use Rattle.ruby_value.specs.declared.value.Value.{Value}
use Rattle.ruby_value.proofs.Ordered.{All-insert}
use Rattle.ruby_value.specs.declared.message.MsgNo.{MsgNo}
use Rattle.ruby_value.specs.declared.setup.BufferPlace.{BufferPlace}
use Rattle.ruby_value.specs.declared.setup.BufferSetup.{BufferSetup}
use Rattle.ruby_value.specs.declared.setup.BufferPlace.TheVariants as place
use Rattle.ctl_face.specs.Prelude.{again, Acts, at_front, after_front, Mail, after_sending, enqueue, last_at, is_latency, Actor, LocalView, mail_with_delivery, MarksAhead, front_now, mail_with_recycled, recycle, receiving_buffer, Sending, copy_limit, no_copies, sending_on, local_arrival, local_copy, network_arrival, next_copy, receivers_of, send, sending_from, with_network_copy}
use Rattle.ruby_value.specs.Prelude.{with_mark}
use Rattle.ctl_face.proofs.Arrivals.{copy_later, positive, raised}
use Rattle.ctl_face.proofs.Cases.{Good, good_ok, good_err, good_cond, good_unless}

module _ (before : List ℕ) (now : ℕ) where
  ahead_with : (marks : List ℕ) (mark : ℕ) → now < mark → MarksAhead before now marks → MarksAhead before now (with_mark marks mark)
  ahead_with marks mark later ahead =
      let P : ℕ → Type 0 = λ m. (now < m) ⊎ Contains before m in
      All-insert P (λ m. nat_lt m mark) (λ m. nat_lt mark m) mark marks ahead (inl later)

  ahead_delivered : (b : Bool) (mail : Mail) (m : Message) → now < m.arrival → MarksAhead before now mail.marks → MarksAhead before now (mail_with_delivery b mail m).marks
  ahead_delivered false mail m later ahead = ahead
  ahead_delivered true mail m later ahead = ahead_with mail.marks m.arrival later ahead

  abbrev MailAhead : Sending → Type 0
  MailAhead s = MarksAhead before now s.mail.marks

  ahead_each : (actor : Actor) (network latency : ℕ) (fields : List Value) → 0 < latency → (members : List ℕ) (s : Sending) → MailAhead s → MailAhead (fold (with_network_copy actor network latency fields now) s members)
  ahead_each actor network latency fields some [] s ahead = ahead
  ahead_each actor network latency fields some (receiver ∷ members) s ahead =
      let arrival = network_arrival actor s.mail network latency now receiver in
      let copy = next_copy actor s.mail receiver (unwrap_or (receiving_buffer actor.routes receiver network) 0) arrival fields in
      ahead_each actor network latency fields some members (with_network_copy actor network latency fields now s receiver)
      (ahead_delivered _ s.mail copy.message (copy_later actor s.mail network latency now receiver some) ahead)

  ahead_on : (p : BufferPlace) (ordered : Bool) (actor : Actor) (mail : Mail) (buffer latency : ℕ) (fields : List Value) → 0 < latency → MarksAhead before now mail.marks → Good MailAhead (sending_on p ordered actor mail buffer latency fields now)
  ahead_on place.Local ordered actor mail buffer latency fields some ahead =
      let sending = local_copy actor ordered mail buffer latency fields now in
      let copy = next_copy actor mail actor.me buffer (local_arrival ordered mail buffer latency now) fields in
      let in_time : now < now + latency = omega arith in
      good_unless MailAhead (nat_lt copy_limit (mail.copies + 1)) Copies (Ok sending)
      (good_ok MailAhead sending (ahead_delivered _ mail copy.message (raised ordered (now + latency) (last_at mail.local_last buffer) now in_time) ahead))
  ahead_on (place.To network destination) ordered actor mail buffer latency fields some ahead =
      let members = receivers_of destination fields in
      let sending = fold (with_network_copy actor network latency fields now) (no_copies mail) members in
      good_unless MailAhead (not (list_all (λ receiver. is_some (receiving_buffer actor.routes receiver network)) members)) Route
      (cond (nat_lt copy_limit (mail.copies + length members)) (Err Copies) (Ok sending))
      (good_unless MailAhead (nat_lt copy_limit (mail.copies + length members)) Copies (Ok sending)
      (good_ok MailAhead sending (ahead_each actor network latency fields some members (no_copies mail) ahead)))
  ahead_on (place.From network) ordered actor mail buffer latency fields some ahead = good_ok MailAhead (no_copies mail) ahead

  ahead_sent : (o : Option BufferSetup) (actor : Actor) (mail : Mail) (buffer latency : ℕ) (fields : List Value) → 0 < latency → MarksAhead before now mail.marks → Good MailAhead (sending_from o actor mail buffer latency fields now)
  ahead_sent None actor mail buffer latency fields some ahead = good_ok MailAhead (no_copies mail) ahead
  ahead_sent (Some s) actor mail buffer latency fields some ahead = ahead_on s.place s.ordered actor mail buffer latency fields some ahead

-- the marks of a controller lie ahead of themselves
all_old : (marks : List ℕ) (now : ℕ) → MarksAhead marks now marks
all_old marks now = All-weaker (Contains marks) (λ m. (now < m) ⊎ Contains marks m) (λ m there. inr there) marks (All-contains_itself marks)

abbrev ViewAhead : LocalView → LocalView → Type 0
ViewAhead v after = MarksAhead v.ctl.mail.marks v.now after.ctl.mail.marks

pub ahead_again : (v : LocalView) → MarksAhead v.ctl.mail.marks v.now (again v).ctl.mail.marks
ahead_again v = ahead_with v.ctl.mail.marks v.now v.ctl.mail.marks (v.now + 1) (omega arith) (all_old v.ctl.mail.marks v.now)

put_off_ahead : (v : LocalView) (told : MsgNo → Acts) (arrival : ℕ) → v.now < arrival → (o : Option Message) → Good (ViewAhead v) (after_front v told (at_front (mail_with_recycled v.ctl.mail arrival) o))
put_off_ahead v told arrival later None = good_err (ViewAhead v) Front
put_off_ahead v told arrival later (Some m) = good_ok (ViewAhead v) _ (ahead_with v.ctl.mail.marks v.now v.ctl.mail.marks arrival later (all_old v.ctl.mail.marks v.now))

recycled_ahead : (v : LocalView) (told : MsgNo → Acts) (latency : ℤ) (b : Bool) → is_latency latency ≡ b → (o : Option Message) → Good (ViewAhead v) (after_front v told (cond b (at_front (mail_with_recycled v.ctl.mail (v.now + nat_abs latency)) o) (Err Latency)))
recycled_ahead v told latency true is o = let some = positive latency is in put_off_ahead v told (v.now + nat_abs latency) (omega arith) o
recycled_ahead v told latency false is o = good_err (ViewAhead v) Latency

pub ahead_recycle : (v : LocalView) (buffer : ℕ) (latency : ℤ) (after : LocalView) → recycle v buffer latency ≡ Ok after → MarksAhead v.ctl.mail.marks v.now after.ctl.mail.marks
ahead_recycle v buffer latency after = (recycled_ahead v _ latency (is_latency latency) refl (front_now v buffer)).good after

sending_ahead : (v : LocalView) (r : Result Sending Fault) → Good (MailAhead v.ctl.mail.marks v.now) r → Good (ViewAhead v) (after_sending v r)
sending_ahead v (Ok s) ahead = good_ok (ViewAhead v) _ (ahead.good s refl)
sending_ahead v (Err e) ahead = good_err (ViewAhead v) e

pub ahead_enqueue : (v : LocalView) (buffer : ℕ) (latency : ℤ) (fields : List Value) (after : LocalView) → enqueue v buffer latency fields ≡ Ok after → MarksAhead v.ctl.mail.marks v.now after.ctl.mail.marks
ahead_enqueue v buffer latency fields after =
    let o = slice_get v.machine.buffers buffer in
    (sending_ahead v (send v.machine v.actor v.ctl.mail buffer latency fields v.now)
    (good_cond (MailAhead v.ctl.mail.marks v.now) (is_latency latency) (sending_from o v.actor v.ctl.mail buffer (nat_abs latency) fields v.now) (Err Latency)
    (λ is. ahead_sent v.ctl.mail.marks v.now o v.actor v.ctl.mail buffer (nat_abs latency) fields (positive latency is) (all_old v.ctl.mail.marks v.now))
    (λ _. good_err (MailAhead v.ctl.mail.marks v.now) Latency))).good after
