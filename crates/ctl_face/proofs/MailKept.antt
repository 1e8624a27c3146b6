-- What holds of a controller's mail holds after each act on it, and so does what holds of a lawful local.
use Rattle.std.proofs.Common.{◌≡◌, ℕ, ℤ, ◌+◌, Bool, true, false, cond, eqb, List, map, All, IfSome, refl, Option, None, Some, Err, nat_abs, is_some}
use Rattle.std.proofs.lemmas.Bool.{cond_both}
use Rattle.ruby_value.specs.declared.fault.Fault.TheVariants.{Front, Latency}
use Rattle.ruby_value.specs.declared.message.Message.{Message}
use Rattle.ruby_value.specs.declared.message.MsgNo.{MsgNo}
use Rattle.ruby_value.specs.declared.setup.BufferSetup.{BufferSetup}
use Rattle.ruby_value.specs.Prelude.{same_number, IsLine}
use Rattle.std.specs.Prelude.{◌&&◌}
use Rattle.ctl_face.specs.declared.parcel.Credit.{Credit}
use Rattle.ctl_face.specs.Prelude.{Acts, Actor, with_credit, credit_for, had_slot, mail_after_dequeue, mail_if_credited, again, at_front, after_front, InboxMessage, Mail, FitsMail, FitsMessage, NumbersAscend, ScanFits, without_message, is_latency, LocalView, mail_with_arrival, incoming_message, mail_with_mark, mail_without, pop, front_now, message_arriving_again, mail_with_recycled, recycle, mail_with_waiting, stall, message_waiting_under, is_under, message_waiting_no_longer, wake, wake_all, woken_mail, with_woken}
use Rattle.ctl_face.specs.Inbox.{with_message}
use Rattle.ctl_face.proofs.Cases.{Good, good_ok, good_err}
use Rattle.ctl_face.proofs.Inboxes.{ascend-with, all-with, ascend-without, all-without, ascend-map, all-map}
use Rattle.ctl_face.proofs.Marks.{IsStrictlyIncreasing-with_mark}

module _ (buffers : List BufferSetup) (me now : ℕ) where
  -- another inbox
  pub inbox_fits : (mail : Mail) (inbox : List InboxMessage) → NumbersAscend inbox → All (FitsMessage buffers me mail.sent) inbox → FitsMail buffers me mail now → FitsMail buffers me (record mail { inbox = inbox }) now
  inbox_fits mail inbox ascends all fits = record {
    inbox_ascends = ascends;
    messages = all;
    marks_ascend = fits.marks_ascend;
    networks = fits.networks;
    copies = fits.copies;
    sent = fits.sent;
    drawn = fits.drawn;
    lent = fits.lent;
  }

  pub mark_fits : (mail : Mail) (cycle : ℕ) → FitsMail buffers me mail now → FitsMail buffers me (mail_with_mark mail cycle) now
  mark_fits mail cycle fits = record {
    inbox_ascends = fits.inbox_ascends;
    messages = fits.messages;
    marks_ascend = IsStrictlyIncreasing-with_mark mail.marks cycle fits.marks_ascend;
    networks = fits.networks;
    copies = fits.copies;
    sent = fits.sent;
    drawn = fits.drawn;
    lent = fits.lent;
  }

  -- a message comes in, and the controller is to look at it when it arrives
  pub arrived_fits : (mail : Mail) (m : Message) → FitsMessage buffers me mail.sent (incoming_message m) → FitsMail buffers me mail now → FitsMail buffers me (mail_with_arrival mail m) now
  arrived_fits mail m fits_new fits =
      let inbox = with_message mail.inbox (incoming_message m) in
      mark_fits (record mail { inbox = inbox }) m.arrival
      (inbox_fits mail inbox (ascend-with mail.inbox (incoming_message m) fits.inbox_ascends) (all-with (FitsMessage buffers me mail.sent) mail.inbox (incoming_message m) fits.messages fits_new) fits)

  pub consumed_fits : (mail : Mail) (m : Message) → FitsMail buffers me mail now → FitsMail buffers me (mail_without mail m) now
  consumed_fits mail m fits =
      inbox_fits mail (without_message mail.inbox m.number) (ascend-without mail.inbox m.number fits.inbox_ascends) (all-without (FitsMessage buffers me mail.sent) mail.inbox m.number fits.messages) fits

  -- a credit comes in, and the controller is to wake when it arrives
  pub credit_fits : (mail : Mail) (c : Credit) → FitsMail buffers me mail now → FitsMail buffers me (record mail { credits = with_credit mail.credits c }) now
  credit_fits mail c fits = record {
    inbox_ascends = fits.inbox_ascends;
    messages = fits.messages;
    marks_ascend = fits.marks_ascend;
    networks = fits.networks;
    copies = fits.copies;
    sent = fits.sent;
    drawn = fits.drawn;
    lent = fits.lent;
  }

  credited_fits : (b : Bool) (mail : Mail) (c : Credit) → FitsMail buffers me mail now → FitsMail buffers me (mail_if_credited b mail c) now
  credited_fits true mail c fits = credit_fits (mail_with_mark mail c.arrival) c (mark_fits mail c.arrival fits)
  credited_fits false mail c fits = fits

  pub dequeued_fits : (actor : Actor) (buffer : ℕ) (mail : Mail) (m : Message) → FitsMail buffers me mail now → FitsMail buffers me (mail_after_dequeue actor buffer now m.number (mail_without mail m)) now
  dequeued_fits actor buffer mail m fits =
      credited_fits (had_slot actor buffer m.number && eqb m.number.sender actor.me) (mail_without mail m) (credit_for actor buffer now m.number).message (consumed_fits mail m fits)

  -- a change, where a test holds, that leaves the number and what fits
  pub tested_fits : (mail : Mail) (test : InboxMessage → Bool) (change : InboxMessage → InboxMessage)
      → ((o : InboxMessage) → (change o).message.number ≡ o.message.number)
      → ((o : InboxMessage) → FitsMessage buffers me mail.sent o → FitsMessage buffers me mail.sent (change o))
      → FitsMail buffers me mail now → FitsMail buffers me (record mail { inbox = map (λ (o : InboxMessage). cond (test o) (change o) o) mail.inbox }) now
  tested_fits mail test change number keeps fits =
      let either : InboxMessage → InboxMessage = λ o. cond (test o) (change o) o in
      inbox_fits mail (map either mail.inbox)
      (ascend-map either (λ o. cond_both (test o) (change o) o (λ (p : InboxMessage). p.message.number ≡ o.message.number) (λ _. number o) (λ _. refl)) mail.inbox fits.inbox_ascends)
      (all-map (FitsMessage buffers me mail.sent) either (λ o here. cond_both (test o) (change o) o (FitsMessage buffers me mail.sent) (λ _. keeps o here) (λ _. here)) mail.inbox fits.messages) fits

  waiting_fits : (sent : ℕ) (line : Option ℕ) → IfSome line IsLine → (o : InboxMessage) → FitsMessage buffers me sent o → FitsMessage buffers me sent (record o { waiting = line })
  waiting_fits sent line is o fits = record { fields = fits.fields; own_number = fits.own_number; line = is }

  arrival_fits : (sent arrival : ℕ) (o : InboxMessage) → FitsMessage buffers me sent o → FitsMessage buffers me sent (message_arriving_again arrival o)
  arrival_fits sent arrival o fits = record { fields = fits.fields; own_number = fits.own_number; line = fits.line }

  pub aside_fits : (mail : Mail) (line : ℕ) (m : Message) → IsLine line → FitsMail buffers me mail now → FitsMail buffers me (mail_with_waiting mail line m) now
  aside_fits mail line m is fits =
      tested_fits mail (λ (o : InboxMessage). same_number o.message.number m.number) (message_waiting_under line) (λ o. refl) (waiting_fits mail.sent (Some line) is) fits

  pub woken_fits : (mail : Mail) (test : InboxMessage → Bool) → FitsMail buffers me mail now → FitsMail buffers me (woken_mail mail test) now
  woken_fits mail test fits = tested_fits mail test message_waiting_no_longer (λ o. refl) (waiting_fits mail.sent None tt) fits

  pub put_off_fits : (mail : Mail) (arrival : ℕ) (m : Message) → FitsMail buffers me mail now → FitsMail buffers me (mail_with_recycled mail arrival m) now
  put_off_fits mail arrival m fits =
      let change : InboxMessage → InboxMessage = message_arriving_again arrival in
      mark_fits (record mail { inbox = map (λ (o : InboxMessage). cond (same_number o.message.number m.number) (change o) o) mail.inbox }) arrival
      (tested_fits mail (λ (o : InboxMessage). same_number o.message.number m.number) change (λ o. refl) (arrival_fits mail.sent arrival) fits)

-- other mail of the same controller
pub mail_lawful : (v : LocalView) (mail : Mail) (acts : Acts) → FitsMail v.machine.buffers v.actor.me mail v.now → ScanFits v → ScanFits (record v { ctl = record v.ctl { mail = mail }; acts = acts })
mail_lawful v mail acts here lawful = record {
  machine = lawful.machine;
  routes = lawful.routes;
  now = lawful.now;
  start = lawful.start;
  fits = record { tables = lawful.fits.tables; mail = here; sequencer = lawful.fits.sequencer };
}

front_lawful : (v : LocalView) (told : MsgNo → Acts) (change : Message → Mail) (o : Option Message) → ((m : Message) → FitsMail v.machine.buffers v.actor.me (change m) v.now) → ScanFits v → Good ScanFits (after_front v told (at_front change o))
front_lawful v told change None keeps lawful = good_err ScanFits Front
front_lawful v told change (Some m) keeps lawful = good_ok ScanFits _ (mail_lawful v (change m) (told m.number) (keeps m) lawful)

pub pop_keeps : (v : LocalView) (buffer : ℕ) → ScanFits v → Good ScanFits (pop v buffer)
pop_keeps v buffer lawful =
    front_lawful v _ (λ (m : Message). mail_after_dequeue v.actor buffer v.now m.number (mail_without v.ctl.mail m)) (front_now v buffer)
    (λ m. dequeued_fits v.machine.buffers v.actor.me v.now v.actor buffer v.ctl.mail m lawful.fits.mail) lawful

pub stall_keeps : (v : LocalView) (buffer line : ℕ) → IsLine line → ScanFits v → Good ScanFits (stall v buffer line)
stall_keeps v buffer line is lawful =
    front_lawful v _ (mail_with_waiting v.ctl.mail line) (front_now v buffer) (λ m. aside_fits v.machine.buffers v.actor.me v.now v.ctl.mail line m is lawful.fits.mail) lawful

woken_keeps : (v : LocalView) (test : InboxMessage → Bool) → ScanFits v → ScanFits (with_woken v test)
woken_keeps v test lawful = mail_lawful v (woken_mail v.ctl.mail test) _ (woken_fits v.machine.buffers v.actor.me v.now v.ctl.mail test lawful.fits.mail) lawful

pub wake_keeps : (v : LocalView) (line : ℕ) → ScanFits v → ScanFits (wake v line)
wake_keeps v line = woken_keeps v (λ (o : InboxMessage). is_under line o.waiting)

pub wake_all_keeps : (v : LocalView) → ScanFits v → ScanFits (wake_all v)
wake_all_keeps v = woken_keeps v (λ (o : InboxMessage). is_some o.waiting)

recycled_keeps : (v : LocalView) (told : MsgNo → Acts) (b : Bool) (buffer arrival : ℕ) → ScanFits v → Good ScanFits (after_front v told (cond b (at_front (mail_with_recycled v.ctl.mail arrival) (front_now v buffer)) (Err Latency)))
recycled_keeps v told true buffer arrival lawful =
    front_lawful v told (mail_with_recycled v.ctl.mail arrival) (front_now v buffer) (λ m. put_off_fits v.machine.buffers v.actor.me v.now v.ctl.mail arrival m lawful.fits.mail) lawful
recycled_keeps v told false buffer arrival lawful = good_err ScanFits Latency

pub recycle_keeps : (v : LocalView) (buffer : ℕ) (latency : ℤ) → ScanFits v → Good ScanFits (recycle v buffer latency)
recycle_keeps v buffer latency lawful = recycled_keeps v _ (is_latency latency) buffer (v.now + nat_abs latency) lawful

pub again_keeps : (v : LocalView) → ScanFits v → ScanFits (again v)
again_keeps v lawful = mail_lawful v (mail_with_mark v.ctl.mail (v.now + 1)) _ (mark_fits v.machine.buffers v.actor.me v.now v.ctl.mail (v.now + 1) lawful.fits.mail) lawful
