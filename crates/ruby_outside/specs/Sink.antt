-- What a sink has taken. Where it tells its bytes, a call adds to their end; where it tells none, it still tells none.
-- A piece that was cut off is there by a beginning of it that is not the whole. How many bytes a sink takes in one
-- call is its own affair, but for the sink in memory, whose state stands here too.
use Rattle.std.specs.Prelude.{◌≡◌, ℕ, ◌-◌, ◌<◌, ◌≤◌, ◌==◌, ◌&&◌, min, Bool, false, not, List, ◌++◌, length, take, Option, Some, None, Result, Ok, Err, if◌then◌else◌}
use Rattle.std.specs.Bool.{OnTrue, OnFalse}
use Rattle.std.specs.declared.io.Error.{Error}
use Rattle.ruby_outside.specs.Faults.{Rose, counted}
use Rattle.ruby_outside.specs.Plan.{PlanState, is_planned, after_call, after_fault}
use Rattle.ruby_outside.specs.declared.sink.Wrote.{Wrote}
use Rattle.ruby_outside.specs.declared.sink.Wrote.TheVariants.{Took, Failed}

-- how many bytes of its piece a write took
abbrev pub bytes_taken : Wrote → ℕ
bytes_taken (Took count) = count
bytes_taken Failed = 0

-- what a write was that the system answered so: this many bytes taken, or a fault
abbrev pub wrote_of : Result ℕ Error → Wrote
wrote_of (Ok count) = Took count
wrote_of (Err fault) = Failed

-- what is told once these bytes have been added
abbrev pub grown : Option (List ℕ) → List ℕ → Option (List ℕ)
grown None bytes = None
grown (Some written) bytes = Some (written ++ bytes)

-- some of the piece was added, from its start, and not all of it
abbrev pub IsCutOff : Option (List ℕ) → List ℕ → Option (List ℕ) → Type 0
IsCutOff before piece after = (count : ℕ) × (count < length piece) × (after ≡ grown before (take count piece))

-- What every write to a sink keeps, by what the sink tells and its count of faults before and after: it takes bytes from the
-- start of the piece, and these come to the end of what is told; the count never falls, and rose where the write failed or
-- took nothing of a piece that isn't empty.
pub record IsLawfulWrite (told : Option (List ℕ)) (faults : ℕ) (piece : List ℕ) (wrote : Wrote) (told' : Option (List ℕ)) (faults' : ℕ) : Type 0 where
  pub within : bytes_taken wrote ≤ length piece
  pub grows : told' ≡ grown told (take (bytes_taken wrote) piece)
  pub counts : faults ≤ faults'
  pub failed : wrote ≡ Failed → Rose faults faults'
  pub stuck : bytes_taken wrote ≡ 0 → 0 < length piece → Rose faults faults'

-- What became of a piece, or a text, that went to a sink: it is there whole, or cut off after a fault of the sink.
pub record IsWritten (told : Option (List ℕ)) (faults : ℕ) (piece : List ℕ) (is_whole : Bool) (told' : Option (List ℕ)) (faults' : ℕ) : Type 0 where
  pub counts : faults ≤ faults'
  pub whole : OnTrue is_whole (told' ≡ grown told piece)
  pub cut_off : OnFalse is_whole (IsCutOff told piece told')
  pub cause : OnFalse is_whole (Rose faults faults')

-- none was taken of a piece that isn't empty
abbrev pub is_stuck : List ℕ → Wrote → Bool
is_stuck piece (Took count) = (count == 0) && not (length piece == 0)
is_stuck piece Failed = false

-- the count of faults of a sink after it gave this answer to this piece
abbrev pub count_after : List ℕ → Wrote → ℕ → ℕ
count_after piece (Took count) faults = if is_stuck piece (Took count) then counted faults else faults
count_after piece Failed faults = counted faults

-- a sink in memory: what it holds, the most bytes that one write takes, the room for all bytes, and the plan of its
-- faults
pub record SinkState : Type 0 where
  pub written : List ℕ
  pub most : ℕ
  pub room : ℕ
  pub plan : PlanState

-- how many bytes of a piece such a sink takes where it doesn't fail
abbrev pub share_of : SinkState → List ℕ → ℕ
share_of sink piece = min (min (length piece) sink.most) (sink.room - length sink.written)

-- what such a sink answers to a piece
abbrev pub answer_to : SinkState → List ℕ → Wrote
answer_to sink piece = if is_planned sink.plan then Failed else Took (share_of sink piece)

-- such a sink after it gave this answer to this piece
abbrev pub after_write : SinkState → List ℕ → Wrote → SinkState
after_write sink piece wrote = record sink {
  written = sink.written ++ take (bytes_taken wrote) piece;
  plan = if is_stuck piece wrote then after_fault (after_call sink.plan) else after_call sink.plan;
}

-- one write to such a sink: its answer, and the sink after it, whose count never falls
pub record IsPlannedWrite (before : SinkState) (piece : List ℕ) (wrote : Wrote) (after : SinkState) : Type 0 where
  pub answer : wrote ≡ answer_to before piece
  pub state : after ≡ after_write before piece wrote
  pub counts : before.plan.faults ≤ after.plan.faults

-- one write to a sink that tells none of its bytes and is its count of faults, which never falls
pub record IsCountedWrite (before : ℕ) (piece : List ℕ) (wrote : Wrote) (after : ℕ) : Type 0 where
  pub within : bytes_taken wrote ≤ length piece
  pub faults : after ≡ count_after piece wrote before
  pub counts : before ≤ after
