-- That the reads and writes of the bodies here are lawful: the proofs of the traits' laws, by what each body says of one call.
use Rattle.std.proofs.Common.{◌≡◌, ℕ, List, length, Option, Some, None, rules}
use Rattle.ruby_outside.specs.Files.{Files, LibraryState, IsPlannedRead, IsSureRead, IsCountedRead, IsLawfulRead}
use Rattle.ruby_outside.specs.Sink.{SinkState, IsPlannedWrite, IsCountedWrite, IsLawfulWrite}
use Rattle.ruby_outside.specs.declared.library.Got.{Got}
use Rattle.ruby_outside.specs.declared.sink.Wrote.{Wrote}
use Rattle.ruby_outside.specs.declared.sink.Wrote.TheVariants.{Took}

pub planned_read : (before : LibraryState) (name : List ℕ) (limit : ℕ) (got : Got) (after : LibraryState) → IsPlannedRead before name limit got after → IsLawfulRead (Some before.files) before.plan.faults name limit got (Some after.files) after.plan.faults
planned_read before name limit got after is = search rules

pub sure_read : (before : Files) (name : List ℕ) (limit : ℕ) (got : Got) (after : Files) → IsSureRead before name limit got after → IsLawfulRead (Some before) 0 name limit got (Some after) 0
sure_read before name limit got after is = search rules

pub counted_read : {F : Type 0} (remaining : F → Option (List ℕ)) (before : ℕ) (name : List ℕ) (limit : ℕ) (got : Got) (after : ℕ) → IsCountedRead remaining before limit got after → IsLawfulRead None before name limit got None after
counted_read remaining before name limit got after is = search rules

pub planned_write : (before : SinkState) (piece : List ℕ) (wrote : Wrote) (after : SinkState) → IsPlannedWrite before piece wrote after → IsLawfulWrite (Some before.written) before.plan.faults piece wrote (Some after.written) after.plan.faults
planned_write before piece wrote after is = search rules

pub counted_write : (before : ℕ) (piece : List ℕ) (wrote : Wrote) (after : ℕ) → IsCountedWrite before piece wrote after → IsLawfulWrite None before piece wrote None after
counted_write before piece wrote after is = search rules

pub whole_write : (piece : List ℕ) (wrote : Wrote) → wrote ≡ Took (length piece) → IsLawfulWrite None 0 piece wrote None 0
whole_write piece wrote all = search rules
