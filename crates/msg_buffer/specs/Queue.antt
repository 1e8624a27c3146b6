-- The messages of a buffer, as the list in which they ascend by arrival, then by number, and no number is there twice. Which
-- of them is the front, `ruby_value` says for any list: the least that is ready, as a function (`front`) and as a relation
-- (`IsFront`). Order by arrival is gem5's; that ties go by number, and that a message which is put off keeps its number, are
-- this project's own.
use Rattle.std.specs.Prelude.{◌≢◌, ℕ, Bool, true, Option, List, ◌==◌, ◌&&◌, ◌||◌, not, nat_lt, nat_le}
use Rattle.std.specs.List.{All, AllPairs, filter}
use Rattle.ruby_value.specs.declared.message.Message.{Message}
use Rattle.ruby_value.specs.declared.message.MsgNo.{MsgNo}
use Rattle.ruby_value.specs.Front as general
use Rattle.ruby_value.specs.Prelude.{inserted, number_before, same_number}

-- the message has arrived
abbrev pub is_ready : ℕ → Message → Bool
is_ready now m = nat_le m.arrival now

-- the message comes after this arrival and number
abbrev pub is_after : ℕ → MsgNo → Message → Bool
is_after arrival number m = nat_lt arrival m.arrival || (arrival == m.arrival && number_before number m.number)

abbrev pub comes_before : Message → Message → Bool
comes_before a b = is_after a.arrival a.number b

abbrev pub ComesBefore : Message → Message → Type 0
ComesBefore a b = general.ComesBefore (λ (m : Message). m.arrival) (λ (m : Message). m.number) a b

pub record IsQueue (messages : List Message) : Type 0 where
  pub ascending : AllPairs ComesBefore messages
  pub distinct : AllPairs (λ a b. a.number ≢ b.number) messages

-- the number is none of theirs
abbrev pub IsNew : List Message → MsgNo → Type 0
IsNew messages number = All (λ o. o.number ≢ number) messages

-- the least of the messages that pass a test
abbrev pub first_where : (Message → Bool) → List Message → Option Message
first_where test messages = general.front test (λ (m : Message). m.arrival) (λ (m : Message). m.number) messages

abbrev pub front : List Message → ℕ → Option Message
front messages now = first_where (is_ready now) messages

abbrev pub IsFront : List Message → ℕ → Option Message → Type 0
IsFront messages now answer =
    general.IsFront (is_ready now) (λ (m : Message). m.arrival) (λ (m : Message). m.number) messages answer

-- the least ready one that comes after this arrival and number
abbrev pub next_after : List Message → ℕ → ℕ → MsgNo → Option Message
next_after messages now arrival number = first_where (λ m. is_ready now m && is_after arrival number m) messages

-- with a message whose number is new, in its place
abbrev pub with_message : List Message → Message → List Message
with_message messages m = inserted comes_before messages m

-- without the message of this number
abbrev pub without_message : List Message → MsgNo → List Message
without_message messages number = filter (λ o. not (same_number o.number number)) messages

-- the message arrives again at a cycle, and counts as recycled from then on
abbrev pub recycled_message : Message → ℕ → Message
recycled_message m arrival = record m { arrival = arrival; recycled = true }

-- with the message put off to a cycle
abbrev pub with_recycled : List Message → Message → ℕ → List Message
with_recycled messages m arrival = with_message (without_message messages m.number) (recycled_message m arrival)
