-- A copy that a scan sends, as one of its changes: it is counted, comes into the controller's own mail where that is the receiver,
-- takes a slot where its buffer has a size, and has a note.
use Rattle.std.specs.Prelude.{◌-◌, ◌+◌, ◌≤◌, ◌++◌, ◌==◌, ℕ, Bool, false, is_some, List, [], ◌∷◌, vec_capacity, vec_len, if◌then◌else◌}
use Rattle.ruby_value.specs.declared.value.Value.{Value}
use Rattle.ruby_value.specs.declared.message.Delivery.{Delivery}
use Rattle.ruby_value.specs.declared.message.Message.{Message}
use Rattle.ctl_face.specs.declared.routes.Routes.{Routes}
use Rattle.ctl_face.specs.Prelude.{parcels_for_others, sent_of, size_of}
use Rattle.ctl_mail.specs.declared.act.MailAct.{MailAct}
use Rattle.ctl_mail.specs.declared.act.MailAct.TheVariants.{Arrive, Count, Lend}
use Rattle.ctl_mail.specs.declared.changes.MailChanges.{MailChanges}
use Rattle.ctl_mail.specs.declared.sent.SendCounts.{SendCounts}
use Rattle.ctl_mail.specs.Told.{Told}

-- room for so many more acts and copies
pub record HasSpace (changes : MailChanges) (acts copies : ℕ) : Type 0 where
  pub log : acts ≤ changes.log.room
  pub sent : copies ≤ vec_capacity changes.sent - vec_len changes.sent
  pub posted : copies ≤ vec_capacity changes.posted - vec_len changes.posted

abbrev pub counts_after : Bool → SendCounts → SendCounts
counts_after drawn counts = record {
  sent = counts.sent + 1;
  drawn = if drawn then counts.drawn + 1 else counts.drawn;
  copies = counts.copies + 1;
}

abbrev pub copy_at : (me count receiver buffer arrival : ℕ) → List Value → Delivery Message
copy_at me count receiver buffer arrival fields = record {
  receiver = receiver;
  message = record {
    number = record { sender = me; count = count };
    buffer = buffer;
    arrival = arrival;
    recycled = false;
    fields = fields;
  };
}

-- what a copy does to the sender's mail, but for last arrivals
abbrev pub arrive_acts : ℕ → Delivery Message → List MailAct
arrive_acts me c = if c.receiver == me then Arrive c.message ∷ [] else []

abbrev pub lend_acts : Routes → (receiver buffer : ℕ) → List MailAct
lend_acts routes receiver buffer = if is_some (size_of routes receiver buffer) then Lend receiver buffer ∷ [] else []

abbrev pub copy_acts : ℕ → Routes → Bool → Delivery Message → List MailAct
copy_acts me routes drawn c = Count drawn ∷ (arrive_acts me c ++ lend_acts routes c.receiver c.message.buffer)

abbrev pub told_with_copy : ℕ → Routes → Bool → Delivery Message → Told → Told
told_with_copy me routes drawn c old = record old {
  counts = counts_after drawn old.counts;
  log = old.log ++ copy_acts me routes drawn c;
  acts = record old.acts { sent = old.acts.sent ++ sent_of c ∷ []; posted = old.acts.posted ++ parcels_for_others me (c ∷ []) };
}

abbrev pub told_with_act : MailAct → Told → Told
told_with_act act old = record old { log = old.log ++ act ∷ [] }
