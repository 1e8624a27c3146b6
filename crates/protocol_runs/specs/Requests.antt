-- The message of a request that a driver issues: it is a parcel, goes to the buffer `mandatoryQueue` of the seat's controller, can be seen
-- from the next cycle on, and has the fields of `RubyRequest` in their order: `LineAddress`, `PhysicalAddress`, `Type` and
-- `Size`. The requests that drivers issue are `LD`, `ST` and `IFETCH`, the first three members of `RubyRequestType`. That such a
-- request takes one cycle is this project's own, and so is the driver's actor number, which comes after the last controller's.
use Rattle.std.specs.Prelude.{ℕ, ◌+◌, ◌*◌, false, Option, None, Some, List, [], ◌∷◌, ◌++◌, pos, slice_get}
use Rattle.ruby_value.specs.declared.asked.Ask.{Ask}
use Rattle.ruby_value.specs.declared.asked.Ask.TheVariants.{Load, Store, Fetch}
use Rattle.ruby_value.specs.declared.asked.Asked.{Asked}
use Rattle.ruby_value.specs.declared.kind.Kind.{Kind}
use Rattle.ruby_value.specs.declared.kind.Kind.TheVariants as kind
use Rattle.ruby_value.specs.declared.message.Delivery.{Delivery}
use Rattle.ruby_value.specs.declared.message.Message.{Message}
use Rattle.ruby_value.specs.declared.message.MsgNo.{MsgNo}
use Rattle.ruby_value.specs.declared.value.Value.{Value}
use Rattle.ruby_value.specs.declared.value.Value.TheVariants as value
use Rattle.ctl_face.specs.declared.parcel.Parcel.{Parcel}
use Rattle.ctl_face.specs.declared.parcel.Parcel.TheVariants as parcel
use Rattle.sequencer.specs.declared.issued.Issued.{Issued}
use Rattle.protocol_runs.specs.Setting.{SeatSetup}

-- the number of the enumeration `RubyRequestType`, and those of its members
abbrev pub request_type : ℕ
request_type = 2

abbrev pub member_of : Ask → ℕ
member_of Load = 0
member_of Store = 1
member_of Fetch = 2

-- the kinds of the fields of `RubyRequest`
abbrev pub request_kinds : List Kind
request_kinds = kind.Addr ∷ kind.Addr ∷ kind.Enum request_type 0 ∷ kind.Int ∷ []

-- a line has 64 bytes
abbrev pub request_fields : Asked → List Value
request_fields a =
    value.Addr (a.line * 64) ∷ value.Addr (a.line * 64 + a.offset) ∷ value.Enum request_type (member_of a.kind)
    ∷ value.Int (pos a.size) ∷ []

abbrev pub request_message : MsgNo → (queue now : ℕ) → Asked → Message
request_message number queue now a = record {
  number = number;
  buffer = queue;
  arrival = now + 1;
  recycled = false;
  fields = request_fields a;
}

-- a request at a seat; at a seat that isn't there, which no lawful turn names, it is no message
abbrev pub request_at : Option SeatSetup → MsgNo → (now : ℕ) → Asked → List (Delivery Parcel)
request_at None number now a = []
request_at (Some s) number now a =
    record { receiver = s.controller; message = parcel.Message (request_message number s.queue now a) } ∷ []

-- the messages of requests, with a driver's numbers from this count on
abbrev pub request_messages : List SeatSetup → (driver count now : ℕ) → List Issued → List (Delivery Parcel)
request_messages seats driver count now [] = []
request_messages seats driver count now (i ∷ rest) =
    request_at (slice_get seats i.seat) (record { sender = driver; count = count }) now i.asked
    ++ request_messages seats driver (count + 1) now rest
