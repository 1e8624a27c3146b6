-- The files of a library: a finite map from names to bytes, as a list of pairs in which the first pair with a name
-- counts. `Reads` says which answers to a read are right where the library tells this map. `IsOpenedRead` says which
-- are right for a file of the system, by how its opening went. When reading an opened file has to fail, or when memory
-- is missing, is not said here. The rules are this project's own.
use Rattle.std.specs.Prelude.{◌≡◌, ◌≢◌, ◌↔◌, IsTrue, ℕ, ◌<◌, ◌≤◌, List, [], ◌∷◌, length, Option, Some, None, Result, Ok, Err, IfSome, IfOk, IfErr, bytes_eq, nat_lt, if◌then◌else◌}
use Rattle.std.specs.IoError.{error_kind}
use Rattle.std.specs.Option.{ForSome}
use Rattle.std.specs.declared.io.Error.{Error}
use Rattle.std.specs.declared.io.ErrorKind.TheVariants.{NotFound}
use Rattle.ruby_outside.specs.Faults.{Rose, counted}
use Rattle.ruby_outside.specs.Plan.{PlanState, after_call, is_planned}
use Rattle.ruby_outside.specs.declared.library.Got.{Got}
use Rattle.ruby_outside.specs.declared.library.Got.TheVariants.{Bytes, Absent, TooLarge, Failed, NoMemory}

-- names with their bytes
abbrev pub Files : Type 0
Files = List (List ℕ × List ℕ)

-- the bytes of the first file with this name
abbrev pub bytes_of : Files → List ℕ → Option (List ℕ)
bytes_of [] name = None
bytes_of (file ∷ files) name = if bytes_eq file.0 name then Some file.1 else bytes_of files name

-- an answer to a read of this name, of at most `limit` bytes
abbrev pub Reads : Files → List ℕ → ℕ → Got → Type 0
Reads files name limit (Bytes bytes) = (bytes_of files name ≡ Some bytes) × (length bytes ≤ limit)
Reads files name limit Absent = bytes_of files name ≡ None
Reads files name limit TooLarge = (bytes : List ℕ) × (bytes_of files name ≡ Some bytes) × (limit < length bytes)
Reads files name limit Failed = Unit {0}
Reads files name limit NoMemory = Unit {0}

-- What every read of a library keeps, by the files that it tells and its count of faults before and after: the files stay
-- the same, the count never falls and rose where the answer is `Failed`, and the answer is right for the files.
pub record IsLawfulRead (files : Option Files) (faults : ℕ) (name : List ℕ) (limit : ℕ) (got : Got) (files' : Option Files) (faults' : ℕ) : Type 0 where
  pub same_files : files' ≡ files
  pub counts : faults ≤ faults'
  pub failed : got ≡ Failed → Rose faults faults'
  pub answer : ForSome files (λ told. Reads told name limit got)

-- there is a file of this name, with at most `limit` bytes
abbrev pub IsReadable : Files → List ℕ → ℕ → Type 0
IsReadable files name limit = (bytes : List ℕ) × (bytes_of files name ≡ Some bytes) × (length bytes ≤ limit)

-- an answer has at most `limit` bytes
abbrev pub IsWithin : ℕ → Got → Type 0
IsWithin limit (Bytes bytes) = length bytes ≤ limit
IsWithin limit Absent = Unit {0}
IsWithin limit TooLarge = Unit {0}
IsWithin limit Failed = Unit {0}
IsWithin limit NoMemory = Unit {0}

-- an answer to a read of at most `limit` bytes of a file that has these bytes
abbrev pub IsReadOf : List ℕ → ℕ → Got → Type 0
IsReadOf bytes limit (Bytes read) = (read ≡ bytes) × (length bytes ≤ limit)
IsReadOf bytes limit Absent = ⊥
IsReadOf bytes limit TooLarge = limit < length bytes
IsReadOf bytes limit Failed = Unit {0}
IsReadOf bytes limit NoMemory = Unit {0}

-- the answer to a read of at most `limit` bytes that ended well with these bytes
abbrev pub got_of : ℕ → List ℕ → Got
got_of limit bytes = if nat_lt limit (length bytes) then TooLarge else Bytes bytes

-- a file wasn't opened since the system has none of that name
abbrev pub IsNotFound : {F : Type 0} → Result F Error → Type 0
IsNotFound (Ok file) = ⊥
IsNotFound (Err fault) = error_kind fault ≡ NotFound

-- the answer to a read of at most `limit` bytes of a file, by how its opening went: the file or a fault. What a file
-- has is said where its reader tells it.
pub record IsOpenedRead {F : Type 0} (remaining : F → Option (List ℕ)) (opened : Result F Error) (limit : ℕ) (got : Got) : Type 0 where
  pub absent : (got ≡ Absent) ↔ IsNotFound opened
  pub failed : IfErr opened (λ fault. error_kind fault ≢ NotFound → got ≡ Failed)
  pub told : IfOk opened (λ file. IfSome (remaining file) (λ bytes. IsReadOf bytes limit got))

-- the count of faults of a library after it gave this answer
abbrev pub count_after : Got → ℕ → ℕ
count_after (Bytes bytes) faults = faults
count_after Absent faults = faults
count_after TooLarge faults = faults
count_after Failed faults = counted faults
count_after NoMemory faults = faults

-- a library in memory that fails by a plan: its files, and the plan of its faults
pub record LibraryState : Type 0 where
  pub files : Files
  pub plan : PlanState

-- one read of such a library: it is a call by the plan, whose count never falls; it fails exactly where the plan says so, and
-- else its answer is right for its files, which stay the same
pub record IsPlannedRead (before : LibraryState) (name : List ℕ) (limit : ℕ) (got : Got) (after : LibraryState) : Type 0 where
  pub files : after.files ≡ before.files
  pub plan : after.plan ≡ after_call before.plan
  pub counts : before.plan.faults ≤ after.plan.faults
  pub failed : (got ≡ Failed) ↔ IsTrue (is_planned before.plan)
  pub answer : Reads before.files name limit got

-- one read of a library in memory that never fails: its answer is right for its files, which are all there is of it
pub record IsSureRead (before : Files) (name : List ℕ) (limit : ℕ) (got : Got) (after : Files) : Type 0 where
  pub same : after ≡ before
  pub never_failed : got ≢ Failed
  pub answer : Reads before name limit got

-- one read of a library that tells none of its files and is its count of faults, which never falls: its answer is right for
-- some outcome of opening a file, and that file's reader
pub record IsCountedRead {F : Type 0} (remaining : F → Option (List ℕ)) (before limit : ℕ) (got : Got) (after : ℕ) : Type 0 where
  pub faults : after ≡ count_after got before
  pub counts : before ≤ after
  pub within : IsWithin limit got
  pub opened : (opened : Result F Error) × IsOpenedRead remaining opened limit got
