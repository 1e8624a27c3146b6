-- The plain driver: at the turn of each cycle below its number of requests it issues one load of four bytes at offset 0 of line
-- 0 at seat 0, unless that line is outstanding there. It takes no answer and finds nothing, and must act at the next cycle as long
-- as that is below its number. It is its number of requests. All this is this project's own.
use Rattle.std.specs.Prelude.{ℕ, ◌+◌, ◌&&◌, Option, None, Some, List, [], ◌∷◌, is_none, nat_lt, if◌then◌else◌}
use Rattle.ruby_value.specs.declared.asked.Ask.TheVariants.{Load}
use Rattle.ruby_value.specs.declared.asked.Asked.{Asked}
use Rattle.sequencer.specs.declared.issued.Issued.{Issued}
use Rattle.sequencer.specs.Drive.{Drive}
use Rattle.sequencer.specs.Seats.{Seat, outstanding_at}

abbrev pub plain_load : ℕ → Asked
plain_load now = record { line = 0; kind = Load; offset = 0; size = 4; byte = 0; issued = now }

abbrev pub plain_issued : ℕ → List Seat → ℕ → List Issued
plain_issued requests seats now =
    if nat_lt now requests && is_none (outstanding_at seats 0 0) then record { seat = 0; asked = plain_load now } ∷ [] else []

abbrev pub plain_next : ℕ → ℕ → Option ℕ
plain_next requests now = if nat_lt (now + 1) requests then Some (now + 1) else None

abbrev pub plain_drive : ℕ → List Seat → ℕ → Drive ℕ
plain_drive requests seats now = record {
  driver = requests;
  taken = [];
  issued = plain_issued requests seats now;
  finding = None;
  next = plain_next requests now;
}

-- how many requests the turn of a cycle may issue
abbrev pub plain_needs : ℕ → ℕ → ℕ
plain_needs requests now = if nat_lt now requests then 1 else 0
