-- A controller as plain data: its tables, the states of its built-in map, its mail, its sequencer's requests and answers, and
-- whether it has stopped. Its mail is the messages that were sent to it and not consumed, the cycles at which it must wake,
-- the counts that its sends go by, and the slots that its messages have in use in buffers with a size, with the credits that it has
-- got back for some.
-- Numbers of messages, marks, counts and credits are this project's own; tables and buffers are those of gem5's Ruby.
use Rattle.std.specs.Prelude.{ℕ, Bool, List, Option}
use Rattle.std.specs.Ordering.{nat_cmp}
use Rattle.std.specs.FinMap as map
use Rattle.ruby_value.specs.declared.message.Message.{Message}
use Rattle.ruby_value.specs.Prelude.{Requests}
use Rattle.ctl_face.specs.declared.parcel.Credit.{Credit}
use Rattle.ctl_face.specs.declared.parcel.Lent.{Lent}
use Rattle.ctl_face.specs.Lasts.{Lasts}
use Rattle.ctl_face.specs.Table.{Table}

-- a message in an inbox, and the line number under which it is stalled, if it is
pub record InboxMessage : Type 0 where
  pub message : Message
  pub waiting : Option ℕ

-- The inbox has ascending message numbers and the marks ascend, so that each is one list alone. `sent` counts the messages
-- that the controller has sent, `drawn` the words that it has drawn, and `copies` the copies that it has sent in this cycle.
-- `network_last` has, by virtual network, for each receiver the arrival of the last copy to it, where the network is ordered,
-- and `local_last` the greatest arrival of what it has sent into each of its own ordered buffers; what isn't there counts as 0.
-- `lent` counts, by receiver and buffer, the messages that it has sent there, where the buffer has a size, less the credits that had
-- arrived as a cycle began; `credits` are those that came since then. Credits.antt says what they come to.
pub record Mail : Type 0 where
  pub inbox : List InboxMessage
  pub marks : List ℕ
  pub sent : ℕ
  pub drawn : ℕ
  pub copies : ℕ
  pub network_last : List Lasts
  pub local_last : Lasts
  pub lent : List Lent
  pub credits : List Credit

-- Tables stand by their number within the machine. `states` has the lines whose state was set. `sequencer` is there where the
-- machine has one. `fired` counts the transitions that fired in this cycle.
pub record Ctl : Type 0 where
  pub tables : List Table
  pub states : map.FinMap nat_cmp ℕ
  pub mail : Mail
  pub sequencer : Option Requests
  pub fired : ℕ
  pub stopped : Bool
