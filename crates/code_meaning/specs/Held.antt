-- What a run of a body has of its own: its stack, from the top down; its locals, of which the arguments are the first; and the fields
-- of the messages that are open, the innermost first, those that it looks at and those that it makes. And what an instruction leads to.
use Rattle.std.specs.Prelude.{ℕ, List, [], slice_get, unwrap_or}
use Rattle.ruby_value.specs.declared.value.Value.{Value}
use Rattle.code_meaning.specs.declared.code_end.CodeEnd.{CodeEnd}

pub record Held : Type 0 where
  pub stack : List Value
  pub locals : List Value
  pub inner : List (List Value)
  pub made : List (List Value)

-- the run goes on with the next instruction, goes on with a later one, or ends
pub data Step : Type 0 where
  On : Held → Step
  To : (at : ℕ) → Held → Step
  Over : CodeEnd → Step

-- the fields of the message that is open innermost; where none is open, none
abbrev pub innermost : List (List Value) → List Value
innermost messages = unwrap_or (slice_get messages 0) []
