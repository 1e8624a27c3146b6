-- What a scan has done to slots and credits, from the mail that it began with, by receivers and their buffers. The slots in use are more
-- by the copies that were sent to a buffer with a size. Of the messages that another controller sent to a buffer with a size here, each
-- that has gone from the inbox has become a credit, which is posted to that controller. What the controller sent itself there is in the
-- inbox, or has become a credit of its own, where it is one of the controllers that the routes count, as in a run. It has no new credits
-- of other receivers, and none that has arrived by now. Whether a message waits or was recycled makes no difference. Of messages of
-- drivers, which take no slot, this says nothing, and of buffers without a size only that no slot was taken there. Slots and credits are
-- this project's own.
use Rattle.std.specs.Prelude.{◌≡◌, ◌<◌, ◌+◌, ◌==◌, ◌&&◌, ℕ, Bool, List, IsTrue, count_by, is_some, if◌then◌else◌}
use Rattle.ruby_value.specs.declared.message.Delivery.{Delivery}
use Rattle.ruby_value.specs.declared.message.Sent.{Sent}
use Rattle.ctl_face.specs.declared.parcel.Credit.{Credit}
use Rattle.ctl_face.specs.declared.parcel.Parcel.{Parcel}
use Rattle.ctl_face.specs.declared.routes.Routes.{Routes}
use Rattle.ctl_face.specs.Prelude.{Actor, InboxMessage, LocalView, Mail, arrived_credits, controller_count, credits_among, is_credit_of, lent_at, size_of}

-- the note is of a copy to this buffer at this receiver
abbrev pub is_note_to : (receiver buffer : ℕ) → Sent → Bool
is_note_to receiver buffer n = n.receiver == receiver && n.buffer == buffer

abbrev pub copies_sent : List Sent → (receiver buffer : ℕ) → ℕ
copies_sent notes receiver buffer = count_by (is_note_to receiver buffer) notes

-- the message is one of this sender's in this buffer
abbrev pub is_message_of : (sender buffer : ℕ) → InboxMessage → Bool
is_message_of sender buffer o = o.message.number.sender == sender && o.message.buffer == buffer

abbrev pub messages_held : List InboxMessage → (sender buffer : ℕ) → ℕ
messages_held inbox sender buffer = count_by (is_message_of sender buffer) inbox

abbrev pub credits_held : List Credit → (receiver buffer : ℕ) → ℕ
credits_held credits receiver buffer = count_by (is_credit_of receiver buffer) credits

-- the credit goes to this controller, for this buffer
abbrev pub is_credit_to : (sender buffer : ℕ) → Delivery Credit → Bool
is_credit_to sender buffer d = d.receiver == sender && d.message.buffer == buffer

abbrev pub credits_posted : List (Delivery Parcel) → (sender buffer : ℕ) → ℕ
credits_posted posted sender buffer = count_by (is_credit_to sender buffer) (credits_among posted)

-- the buffer at the receiver has a size
abbrev pub has_size : Routes → (receiver buffer : ℕ) → Bool
has_size routes receiver buffer = is_some (size_of routes receiver buffer)

-- these copies have taken so many slots there
abbrev pub slots_taken : Routes → List Sent → (receiver buffer : ℕ) → ℕ
slots_taken routes notes receiver buffer = if has_size routes receiver buffer then copies_sent notes receiver buffer else 0

pub record MovesSlots (actor : Actor) (now : ℕ) (before after : Mail) (sent : List Sent) (posted : List (Delivery Parcel)) : Type 0 where
  pub lent :
      (receiver buffer : ℕ)
      → lent_at after.lent receiver buffer
      ≡ lent_at before.lent receiver buffer + slots_taken actor.routes sent receiver buffer
  pub from_others :
      (sender buffer : ℕ)
      → ¬ (sender ≡ actor.me) → sender < controller_count actor.routes → IsTrue (has_size actor.routes actor.me buffer)
      → messages_held before.inbox sender buffer
      ≡ messages_held after.inbox sender buffer + credits_posted posted sender buffer
  pub from_itself :
      (buffer : ℕ)
      → actor.me < controller_count actor.routes → IsTrue (has_size actor.routes actor.me buffer)
      → credits_held after.credits actor.me buffer + messages_held after.inbox actor.me buffer
      ≡ credits_held before.credits actor.me buffer + messages_held before.inbox actor.me buffer + copies_sent sent actor.me buffer
  pub other_receivers :
      (receiver buffer : ℕ)
      → ¬ (receiver ≡ actor.me)
      → credits_held after.credits receiver buffer ≡ credits_held before.credits receiver buffer
  pub arrived :
      (receiver buffer : ℕ)
      → arrived_credits after.credits receiver buffer now ≡ arrived_credits before.credits receiver buffer now

-- so it is with the local of a scan
abbrev pub HasSlotted : LocalView → Type 0
HasSlotted v = MovesSlots v.actor v.now v.start.mail v.ctl.mail v.acts.sent v.acts.posted
