-- What always holds of the copies that a scan has sent, and of the numbers of all its messages: none is lost or made but by
-- sending and consuming. The copies' notes have the controller's next numbers, from the first that was free as the scan began;
-- the controller has counted them as sent, and as copies of this cycle; each arrives after this cycle. The posted copies are
-- those that aren't for the controller itself. Each is for a receiver that its message names, in the buffer that takes a network's
-- messages there, and has fields like those of the messages of one of the machine's buffers to this network. A posted credit is for
-- another controller, of a buffer of this one, and arrives in the next cycle. Of the messages in
-- the inbox, those that the controller sent itself among them, numbers alone are told, and nothing is said of marks, of drawn
-- words, of last arrivals or of slots in use: what an act does to these is said by its own definition.
use Rattle.std.specs.Prelude.{◌≡◌, ◌<◌, ◌+◌, ◌==◌, ◌&&◌, ℕ, Bool, false, List, not, map, filter, length, count_by, IsTrue}
use Rattle.std.specs.List.{All, list_any}
use Rattle.ruby_value.specs.declared.message.MsgNo.{MsgNo}
use Rattle.ruby_value.specs.declared.setup.BufferPlace.{BufferPlace}
use Rattle.ruby_value.specs.declared.setup.BufferPlace.TheVariants as place
use Rattle.ruby_value.specs.declared.setup.BufferSetup.{BufferSetup}
use Rattle.ruby_value.specs.declared.setup.MachineSetup.{MachineSetup}
use Rattle.ruby_value.specs.Prelude.{has_kinds, numbers_from}
use Rattle.ruby_value.specs.declared.message.Delivery.{Delivery}
use Rattle.ruby_value.specs.declared.message.Message.{Message}
use Rattle.ruby_value.specs.declared.message.Sent.{Sent}
use Rattle.ctl_face.specs.Acts.{sent_of}
use Rattle.ctl_face.specs.Ctl.{InboxMessage}
use Rattle.ctl_face.specs.declared.parcel.Credit.{Credit}
use Rattle.ctl_face.specs.declared.routes.Routes.{Routes}
use Rattle.ctl_face.specs.LocalView.{Actor, LocalView}
use Rattle.ctl_face.specs.Parcels.{credits_among, messages_among}
use Rattle.ctl_face.specs.Routing.{controller_count, is_buffer, receiving_buffer}
use Rattle.ctl_face.specs.Send.{receivers_of}

-- From a buffer of this sort the copy comes to its receiver: the buffer is to a network, the message names the receiver in the field that
-- the buffer has for it, and the copy is in the buffer that takes the network's messages there.
abbrev pub reaches : Routes → Delivery Message → BufferPlace → Bool
reaches routes c place.Local = false
reaches routes c (place.To network destination) =
    list_any (λ r. r == c.receiver) (receivers_of destination c.message.fields)
    && is_buffer c.message.buffer (receiving_buffer routes c.receiver network)
reaches routes c (place.From network) = false

-- messages like the copy are sent on the buffer, and the copy comes to its receiver from there
abbrev pub is_sent_on : Routes → Delivery Message → BufferSetup → Bool
is_sent_on routes c s = has_kinds s.kinds c.message.fields && reaches routes c s.place

-- the copy is one that the machine sends, and hasn't been recycled yet
pub record IsRouted (machine : MachineSetup) (routes : Routes) (c : Delivery Message) : Type 0 where
  pub sent : IsTrue (list_any (is_sent_on routes c) machine.buffers)
  pub not_recycled : c.message.recycled ≡ false

-- of a controller that had sent `before` messages as the scan began, `earlier` of them copies of this cycle, and now has sent
-- `after` and `copies`
pub record SentFits (machine : MachineSetup) (actor : Actor) (now before after earlier copies : ℕ) (notes : List Sent) (posted : List (Delivery Message)) : Type 0 where
  pub numbers : map (λ (n : Sent). n.number) notes ≡ numbers_from actor.me before (length notes)
  pub count : after ≡ before + length notes
  pub copies_counted : copies ≡ earlier + length notes
  pub arrivals : All (λ (n : Sent). now < n.arrival) notes
  pub for_others : map sent_of posted ≡ filter (λ (n : Sent). not (n.receiver == actor.me)) notes
  pub routed : All (IsRouted machine actor.routes) posted

abbrev pub numbers_in : List InboxMessage → List MsgNo
numbers_in inbox = map (λ (m : InboxMessage). m.message.number) inbox

-- No message is lost or made but by sending and consuming: what was in the inbox as the scan began, and what it has sent, is
-- consumed, posted, or in the inbox, as often, counted by any test of numbers.
abbrev pub MailMoves : (before after : List InboxMessage) (taken : List MsgNo) (notes : List Sent) (posted : List (Delivery Message)) → Type 0
MailMoves before after taken notes posted =
    (f : MsgNo → Bool)
    → count_by f (numbers_in before) + count_by f (map (λ (n : Sent). n.number) notes)
    ≡ count_by f taken + count_by f (map (λ (c : Delivery Message). c.message.number) posted) + count_by f (numbers_in after)

-- a credit for a message that another controller sent to this one
pub record IsCreditFor (actor : Actor) (now : ℕ) (d : Delivery Credit) : Type 0 where
  pub to_other : ¬ (d.receiver ≡ actor.me)
  pub to_controller : d.receiver < controller_count actor.routes
  pub of_this : d.message.receiver ≡ actor.me
  pub arrival : d.message.arrival ≡ now + 1

abbrev pub ActsFit : LocalView → Type 0
ActsFit v =
    let posted = messages_among v.acts.posted in
    SentFits v.machine v.actor v.now v.start.mail.sent v.ctl.mail.sent v.start.mail.copies v.ctl.mail.copies v.acts.sent posted
    × MailMoves v.start.mail.inbox v.ctl.mail.inbox v.acts.consumed v.acts.sent posted
    × All (IsCreditFor v.actor v.now) (credits_among v.acts.posted)
