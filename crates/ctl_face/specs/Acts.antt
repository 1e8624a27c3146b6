-- What the acts of a scan have done to messages: the numbers that were consumed, stalled, woken and recycled, that each copy was
-- sent, each list in the order of the acts; what goes to other controllers, copies and credits; and whether the
-- controller was told to wake again in the next cycle, as it is where a transition has to wait. A copy to the sender itself is
-- in its inbox at once, so it was sent and isn't posted. A journal tells the numbers and the sent copies of a transition, which is
-- this project's own. Nothing here says that the acts are those of one transition alone.
use Rattle.std.specs.Prelude.{Bool, List}
use Rattle.ruby_value.specs.declared.message.Delivery.{Delivery}
use Rattle.ruby_value.specs.declared.message.Message.{Message}
use Rattle.ruby_value.specs.declared.message.MsgNo.{MsgNo}
use Rattle.ruby_value.specs.declared.message.Sent.{Sent}
use Rattle.ctl_face.specs.declared.parcel.Parcel.{Parcel}

-- that a copy was sent: its number, to whom, into which buffer there, and when it arrives
abbrev pub sent_of : Delivery Message → Sent
sent_of c = record { number = c.message.number; receiver = c.receiver; buffer = c.message.buffer; arrival = c.message.arrival }

pub record Acts : Type 0 where
  pub consumed : List MsgNo
  pub stalled : List MsgNo
  pub woken : List MsgNo
  pub recycled : List MsgNo
  pub sent : List Sent
  pub posted : List (Delivery Parcel)
  pub again : Bool
