-- What a library that tells its files has given, read by read, and whether a read failed.
use Rattle.std.proofs.Common.{◌≡◌, ◌≢◌, ◌≤◌, ◌⊎◌, inl, inr, ℕ, if◌then◌else◌, Bool, Option, Some, List, [], ◌∷◌, length, refl, sym, ◌∙◌, ap, subst, arith}
use Rattle.std.proofs.lemmas.Bool.{le-ltb, lt-ltb}
use Rattle.ruby_outside.specs.Prelude.{Rose, Files, Reads, IsLawfulRead}
use Rattle.ruby_outside.specs.declared.library.Got.{Got}
use Rattle.ruby_outside.specs.declared.library.Got.TheVariants as got
use Rattle.ruby_outside.proofs.Counts.{rose_before}
use Rattle.slicc_files.specs.Prelude.{Read, AreMade, MayBeGiven, file_limit, given, given_for}

-- a read that neither failed nor wanted memory gave what the files give
pub given_right : (files : Files) (name : List ℕ) (g : Got) → Reads files name file_limit g → g ≢ got.Failed → g ≢ got.NoMemory → g ≡ given files name
given_right files name (got.Bytes bytes) is well room =
    let P : Bool → Type 0 = λ over. got.Bytes bytes ≡ (if over then got.TooLarge else got.Bytes bytes) in
    let short : got.Bytes bytes ≡ given_for (Some bytes) = subst P (sym (le-ltb file_limit (length bytes) is.1)) refl in
    short ∙ ap given_for (sym is.0)
given_right files name got.Absent is well room = ap given_for (sym is)
given_right files name got.TooLarge (bytes, there, long) well room =
    let P : Bool → Type 0 = λ over. got.TooLarge ≡ (if over then got.TooLarge else got.Bytes bytes) in
    let over : got.TooLarge ≡ given_for (Some bytes) = subst P (sym (lt-ltb file_limit (length bytes) long)) refl in
    over ∙ ap given_for (sym there)
given_right files name got.Failed is well room = absurd (well refl)
given_right files name got.NoMemory is well room = absurd (room refl)

-- one of the reads failed
abbrev pub HasFailed : List Read → Type 0
HasFailed [] = ⊥
HasFailed (r ∷ rs) = (r.got ≡ got.Failed) ⊎ HasFailed rs

module _ {L : Type 0} (files : L → Option Files) (faults : L → ℕ) (reads : L → List ℕ → ℕ → Got → L → Type 0) (lawful : (before : L) (name : List ℕ) (limit : ℕ) (g : Got) (after : L) → reads before name limit g after → IsLawfulRead (files before) (faults before) name limit g (files after) (faults after)) where
  -- each read answered as the files allow
  pub all_read : (told : Files) (made : List Read) (before after : L) → AreMade reads before made after → files before ≡ Some told → MayBeGiven told made
  all_read told [] before after are tells = tt
  all_read told (r ∷ rs) before after (middle, read, rest) tells =
      let is = lawful before r.name file_limit r.got middle read in
      (is.answer told tells, all_read told rs middle after rest (is.same_files ∙ tells))

  -- the count of faults never fell
  pub never_fell : (made : List Read) (before after : L) → AreMade reads before made after → faults before ≤ faults after
  never_fell [] before after are = omega (arith, ap faults are)
  never_fell (r ∷ rs) before after (middle, read, rest) =
      let is = lawful before r.name file_limit r.got middle read in
      omega (arith, is.counts, never_fell rs middle after rest)

  rose_later : (before middle after : ℕ) → before ≤ middle → Rose middle after → Rose before after
  rose_later before middle after le (inl more) = inl (omega (arith, le, more))
  rose_later before middle after le (inr last) = inr last

  -- and rose where a read failed
  pub failed_rose : (made : List Read) (before after : L) → AreMade reads before made after → HasFailed made → Rose (faults before) (faults after)
  failed_rose [] before after are failed = absurd failed
  failed_rose (r ∷ rs) before after (middle, read, rest) (inl failed) =
      let is = lawful before r.name file_limit r.got middle read in
      rose_before (faults before) (faults middle) (faults after) (is.failed failed) (never_fell rs middle after rest) is.counts
  failed_rose (r ∷ rs) before after (middle, read, rest) (inr later) =
      let is = lawful before r.name file_limit r.got middle read in
      rose_later (faults before) (faults middle) (faults after) is.counts (failed_rose rs middle after rest later)
