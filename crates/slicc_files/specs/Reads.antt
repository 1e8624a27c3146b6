-- The reads that are made of a library, one after the other, and what files give where the library tells them. All this is
-- this project's own.
use Rattle.std.specs.Prelude.{◌≡◌, ℕ, Option, None, Some, List, [], ◌∷◌, map}
use Rattle.std.specs.List.{IsDistinct}
use Rattle.std.specs.Str.{bytes_eq}
use Rattle.ruby_outside.specs.Prelude.{Files, Reads, bytes_of, got_of}
use Rattle.ruby_outside.specs.declared.library.Got.{Got}
use Rattle.ruby_outside.specs.declared.library.Got.TheVariants as got

-- the most bytes that a file may have
abbrev pub file_limit : ℕ
file_limit = 1048576

-- one read: the name of the file, and what the library gave
pub record Read : Type 0 where
  pub name : List ℕ
  pub got : Got

-- these reads were made, one after the other, and lead from one library to the other
abbrev pub AreMade : {L : Type 0} (reads : L → List ℕ → ℕ → Got → L → Type 0) → L → List Read → L → Type 0
AreMade reads before [] after = after ≡ before
AreMade {L} reads before (r ∷ rs) after = (middle : L) × reads before r.name file_limit r.got middle × AreMade reads middle rs after

-- no name was read twice
abbrev pub AreOfOneNameEach : List Read → Type 0
AreOfOneNameEach made = IsDistinct bytes_eq (map (λ (r : Read). r.name) made)

-- what files give for a name where no read fails
abbrev pub given_for : Option (List ℕ) → Got
given_for None = got.Absent
given_for (Some bytes) = got_of file_limit bytes

abbrev pub given : Files → List ℕ → Got
given files name = given_for (bytes_of files name)

-- each read gave what these files give
abbrev pub AreGiven : Files → List Read → Type 0
AreGiven files [] = Unit {0}
AreGiven files (r ∷ rs) = (r.got ≡ given files r.name) × AreGiven files rs

-- each read gave what these files give, or a fault or a lack of memory came in its place
abbrev pub MayBeGiven : Files → List Read → Type 0
MayBeGiven files [] = Unit {0}
MayBeGiven files (r ∷ rs) = Reads files r.name file_limit r.got × MayBeGiven files rs
