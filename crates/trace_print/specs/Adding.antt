-- How a line goes to a sink while it is made: its bytes are held until they are a piece. Adding bytes to those held leaves it so that
-- whatever comes after them, putting the bytes then held and what comes is putting the line as it was to be; or a piece was cut off,
-- and so is the line, whatever was to come.
use Rattle.std.specs.Prelude.{ℕ, Bool, false, List, ◌++◌}
use Rattle.std.specs.Bool.{OnFalse, OnTrue}
use Rattle.ruby_outside.specs.declared.sink.Wrote.{Wrote}
use Rattle.trace_print.specs.Pieces.{IsLinePut}

pub record IsAdded {S : Type 0} (writes : S → List ℕ → Wrote → S → Type 0) (before : S) (held bytes : List ℕ) (is_whole : Bool) (after : S) (held' : List ℕ) : Type 0 where
  pub goes_on :
      OnTrue is_whole
      ((rest : List ℕ) (whole : Bool) (last : S) → IsLinePut writes after (held' ++ rest) whole last → IsLinePut writes before (held ++ (bytes ++ rest)) whole last)
  pub cut_off : OnFalse is_whole ((rest : List ℕ) → IsLinePut writes before (held ++ (bytes ++ rest)) false after)
