-- That waking a line takes no memory and costs what waits under it, since for each line the numbers of its messages are kept,
-- with places for all of them; and that a message can be put under any line without memory while there is room: an empty lane
-- is then ready for it, with places for as many as that line will have. `longest` is a bound on what any line has.
use Rattle.std.specs.Prelude.{◌≡◌, ◌<◌, ◌≤◌, ◌+◌, ◌^◌, ℕ, Option, None, Some, List, [], IfSome, length, vec_capacity}
use Rattle.std.specs.List.{All}
use Rattle.std.specs.Ordering.{nat_cmp}
use Rattle.std.specs.FinMap as map
use Rattle.ruby_value.specs.declared.message.MsgNo.{MsgNo}
use Rattle.stall_map.specs.declared.lane.Lane.{Lane}
use Rattle.stall_map.specs.declared.slots.Slot.{Slot}
use Rattle.stall_map.specs.declared.stalled.Stalled.{Stalled}
use Rattle.stall_map.specs.Slots.{IsOrder, waiting_of}
use Rattle.stall_map.specs.Stalls.{numbers_under}

-- the numbers of a line's messages, none without a lane
abbrev pub numbers_of : Option Lane → List MsgNo
numbers_of None = []
numbers_of (Some lane) = lane.numbers.items

-- the lane has places for its messages
pub record IsReady (lane : Lane) : Type 0 where
  pub empty : lane.places.items ≡ []
  pub enough : length lane.numbers.items ≤ vec_capacity lane.places

-- the lane is that of a line with these numbers
pub record Serves (numbers : List MsgNo) (longest : ℕ) (lane : Option Lane) : Type 0 where
  pub known : numbers_of lane ≡ numbers
  pub bound : length numbers ≤ longest
  pub ready : IfSome lane IsReady

abbrev pub ServesAll : List Stalled → ℕ → map.FinMap nat_cmp Lane → Type 0
ServesAll stalled longest lanes = (line : ℕ) → Serves (numbers_under stalled line) longest (map.get lanes line)

-- an empty lane with places for so many
pub record IsWide (wanted : ℕ) (lane : Lane) : Type 0 where
  pub empty : lane.numbers.items ≡ []
  pub no_message : lane.places.items ≡ []
  pub numbers_fit : wanted ≤ vec_capacity lane.numbers
  pub messages_fit : wanted ≤ vec_capacity lane.places

-- the parts of a stall map with room for `room` more messages: its order has places for `entries` more, its map from lines for
-- `lines` more, and its pool holds empty lanes
pub record IsPrepared
    (slots : List Slot) (entries waiting : ℕ) (lanes : map.FinMap nat_cmp Lane) (lines : ℕ)
    (pool : List Lane) (longest room : ℕ) : Type 0 where
  pub order : IsOrder slots
  pub count : waiting ≡ length (waiting_of slots)
  pub serves : ServesAll (waiting_of slots) longest lanes
  pub small : longest < 2 ^ 63
  pub entries_left : room ≤ entries
  pub lines_left : room ≤ lines
  pub lanes_left : room ≤ length pool
  pub wide : 0 < room → All (IsWide (longest + room)) pool
