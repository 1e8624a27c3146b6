-- The messages that wait under lines, as the list in which their numbers ascend, each with its line. A message keeps its
-- arrival and its number while it waits, and woken ones come in increasing number; both are this project's own.
use Rattle.std.specs.Prelude.{◌≢◌, ℕ, Bool, true, Option, None, Some, List, ◌==◌, not, map, slice_get}
use Rattle.std.specs.List.{All, AllPairs, filter}
use Rattle.ruby_value.specs.declared.message.Message.{Message}
use Rattle.ruby_value.specs.declared.message.MsgNo.{MsgNo}
use Rattle.ruby_value.specs.Prelude.{inserted, IsBefore, number_before}
use Rattle.stall_map.specs.declared.stalled.Stalled.{Stalled}

abbrev pub comes_before : Stalled → Stalled → Bool
comes_before a b = number_before a.message.number b.message.number

abbrev pub Ascends : List Stalled → Type 0
Ascends stalled = AllPairs (λ a b. IsBefore a.message.number b.message.number) stalled

-- the number is none of theirs
abbrev pub IsNew : List Stalled → MsgNo → Type 0
IsNew stalled number = All (λ o. o.message.number ≢ number) stalled

-- with a message whose number is new, under a line
abbrev pub with_stalled : List Stalled → ℕ → Message → List Stalled
with_stalled stalled line m = inserted comes_before stalled (record { line = line; message = m })

abbrev pub is_under : ℕ → Stalled → Bool
is_under line s = s.line == line

abbrev pub messages_of : List Stalled → List Message
messages_of stalled = map (λ (s : Stalled). s.message) stalled

abbrev pub messages_under : List Stalled → ℕ → List Message
messages_under stalled line = messages_of (filter (is_under line) stalled)

-- their numbers, in increasing order
abbrev pub numbers_under : List Stalled → ℕ → List MsgNo
numbers_under stalled line = map (λ (m : Message). m.number) (messages_under stalled line)

-- the others
abbrev pub without_line : List Stalled → ℕ → List Stalled
without_line stalled line = filter (λ s. not (is_under line s)) stalled

-- the number comes after the given one, if one is given
abbrev pub is_above : Option MsgNo → Stalled → Bool
is_above None s = true
is_above (Some number) s = number_before number s.message.number

-- the one of the least number above the given one, or of the least number
abbrev pub next_after : List Stalled → Option MsgNo → Option Stalled
next_after stalled number = slice_get (filter (is_above number) stalled) 0
