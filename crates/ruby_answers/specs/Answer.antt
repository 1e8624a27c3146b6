-- What a call may answer: the status that the program ends with, and the record that is kept. The statuses are this project's own.
use Rattle.std.specs.Prelude.{ℕ, Bool, Option, None, Some, if◌then◌else◌}
use Rattle.run_journal.specs.declared.verdict.Verdict.{Verdict}
use Rattle.run_journal.specs.declared.verdict.Verdict.TheVariants.{Passed, Quiet}
use Rattle.protocol_meaning.specs.declared.record.RunRecord.{RunRecord}
use Rattle.ruby_answers.specs.declared.done.Answer.{Answer}
use Rattle.ruby_answers.specs.declared.done.Answer.TheVariants.{Ran, Generated, Accepted, Tabled, Usage, Refused, Unfit, Absent, TooLarge, ReadFault}
use Rattle.ruby_answers.specs.declared.done.Done.{Done}

-- 0 for a run whose checks have passed or that ended quietly, and 1 for any other
abbrev pub verdict_status : Verdict → ℕ
verdict_status (Passed cycle checks) = 0
verdict_status (Quiet cycle) = 0
verdict_status other = 1

-- the status of an answer whose text was written
abbrev pub status_of : Answer → ℕ
status_of (Ran r) = verdict_status r.verdict
status_of (Generated r) = verdict_status r.verdict
status_of (Accepted counts) = 0
status_of (Tabled trees rows) = 0
status_of Usage = 2
status_of (Refused refusal) = 3
status_of (Unfit rule line) = 4
status_of (ReadFault name) = 5
status_of (Absent name) = 6
status_of (TooLarge name) = 9

abbrev pub kept_of : Answer → Option RunRecord
kept_of (Ran r) = Some r
kept_of (Generated r) = Some r
kept_of (Accepted counts) = None
kept_of (Tabled trees rows) = None
kept_of Usage = None
kept_of (Refused refusal) = None
kept_of (Unfit rule line) = None
kept_of (Absent name) = None
kept_of (TooLarge name) = None
kept_of (ReadFault name) = None

-- what a call ends with once the text of its answer was written, or, with 7, not the whole of it
abbrev pub done_of : Answer → Bool → Done
done_of a whole = record { status = if whole then status_of a else 7; kept = kept_of a }

-- what a call ends with that had no memory
abbrev pub out_of_memory : Done
out_of_memory = record { status = 8; kept = None }
