-- What a scan has done to messages, from the mail that it began with: what was in the inbox and what was sent is
-- consumed, posted to others, or in the inbox, counted by any test of numbers; what was sent has the sender's next numbers, and these
-- are counted. A posted message has the sender's number, is for another controller, and arrives later; so does a posted credit, which is
-- for another controller, too.
use Rattle.std.specs.Prelude.{◌≡◌, ◌<◌, ◌+◌, ℕ, false, map, length}
use Rattle.std.specs.List.{All}
use Rattle.ctl_face.specs.Prelude.{Acts, IsCreditFor, MailMoves, Mail, LocalView, credits_among, messages_among}
use Rattle.ruby_value.specs.declared.message.Delivery.{Delivery}
use Rattle.ruby_value.specs.declared.message.Message.{Message}
use Rattle.ruby_value.specs.declared.message.Sent.{Sent}
use Rattle.ruby_value.specs.Prelude.{numbers_from}

pub record MovesMail (me : ℕ) (before : Mail) (acts : Acts) (after : Mail) : Type 0 where
  pub moved : MailMoves before.inbox after.inbox acts.consumed acts.sent (messages_among acts.posted)
  pub numbers : map (λ (n : Sent). n.number) acts.sent ≡ numbers_from me before.sent (length acts.sent)
  pub sent : after.sent ≡ before.sent + length acts.sent

pub record IsPosted (me now : ℕ) (c : Delivery Message) : Type 0 where
  pub sender : c.message.number.sender ≡ me
  pub other : ¬ (c.receiver ≡ me)
  pub later : now < c.message.arrival
  pub not_recycled : c.message.recycled ≡ false

-- so it is with the local of a scan
pub record HasMailed (v : LocalView) : Type 0 where
  pub moves : MovesMail v.actor.me v.start.mail v.acts v.ctl.mail
  pub posted : All (IsPosted v.actor.me v.now) (messages_among v.acts.posted)
  pub credits : All (IsCreditFor v.actor v.now) (credits_among v.acts.posted)
