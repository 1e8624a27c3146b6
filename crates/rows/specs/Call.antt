-- The row of a call: it is made over a library and an empty sink in memory that never fails, and its row is of what that sink
-- then holds and of the status that the call ends with.
use Rattle.std.specs.Prelude.{◌≡◌, ℕ, List, []}
use Rattle.ruby_outside.specs.declared.library.Got.{Got}
use Rattle.ruby_outside.specs.Prelude.{begun, SinkState, IsPlannedWrite}
use Rattle.ruby_answers.specs.declared.done.Done.{Done}
use Rattle.ruby_cli.specs.Prelude.{IsAnswered, asked_by}
use Rattle.rows.specs.Row.{row_of}

-- a sink with room for so many bytes
abbrev pub empty_sink : ℕ → SinkState
empty_sink room = record { written = []; most = room; room = room; plan = begun [] }

pub record IsRow {L : Type 0} (reads : L → List ℕ → ℕ → Got → L → Type 0) (room : ℕ) (call : List ℕ) (words : List (List ℕ)) (library library' : L) (row : List ℕ) : Type 0 where
  pub sink : SinkState
  pub done : Done
  pub answered : IsAnswered reads IsPlannedWrite (asked_by words) library library' (empty_sink room) sink done
  pub text : row ≡ row_of call sink.written done.status
