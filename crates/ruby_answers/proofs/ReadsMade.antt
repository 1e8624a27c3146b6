-- Reads of which the first are a protocol's, and those after them.
use Rattle.std.proofs.Common.{◌≡◌, ◌++◌, ◌⊎◌, inl, inr, ℕ, Option, None, Some, Bool, true, false, if◌then◌else◌, List, [], ◌∷◌, length, refl, sym, ◌∙◌, ap, subst, nat_lt}
use Rattle.ruby_outside.specs.Prelude.{Files, bytes_of, got_of}
use Rattle.ruby_outside.specs.declared.library.Got.{Got}
use Rattle.ruby_outside.specs.declared.library.Got.TheVariants as got
use Rattle.slicc_files.specs.Prelude.{Read, AreGiven, AreMade, MayBeGiven, file_limit, given, given_for}
use Rattle.slicc_files.proofs.OneGathering.{DoAgree}
use Rattle.slicc_files.proofs.Told.{HasFailed}

pub made_on : {L : Type 0} (reads : L → List ℕ → ℕ → Got → L → Type 0) (before middle after : L) (first more : List Read)
    → AreMade reads before first middle → AreMade reads middle more after → AreMade reads before (first ++ more) after
made_on reads before middle after [] more are also = subst (λ (l : _). AreMade reads l more after) are also
made_on reads before middle after (r ∷ first) more (next, read, are) also = (next, read, made_on reads next middle after first more are also)

pub given_first : (files : Files) (first more : List Read) → AreGiven files (first ++ more) → AreGiven files first
given_first files [] more are = tt
given_first files (r ∷ first) more are = (are.0, given_first files first more are.1)

pub given_more : (files : Files) (first more : List Read) → AreGiven files (first ++ more) → AreGiven files more
given_more files [] more are = are
given_more files (r ∷ first) more are = given_more files first more are.1

pub given_both : (files : Files) (first more : List Read) → AreGiven files first → AreGiven files more → AreGiven files (first ++ more)
given_both files [] more are also = also
given_both files (r ∷ first) more are also = (are.0, given_both files first more are.1 also)

pub may_first : (files : Files) (first more : List Read) → MayBeGiven files (first ++ more) → MayBeGiven files first
may_first files [] more may = tt
may_first files (r ∷ first) more may = (may.0, may_first files first more may.1)

pub may_more : (files : Files) (first more : List Read) → MayBeGiven files (first ++ more) → MayBeGiven files more
may_more files [] more may = may
may_more files (r ∷ first) more may = may_more files first more may.1

pub failed_first : (first more : List Read) → HasFailed first → HasFailed (first ++ more)
failed_first [] more failed = absurd failed
failed_first (r ∷ first) more (inl failed) = inl failed
failed_first (r ∷ first) more (inr later) = inr (failed_first first more later)

pub failed_more : (first more : List Read) → HasFailed more → HasFailed (first ++ more)
failed_more [] more failed = failed
failed_more (r ∷ first) more failed = inr (failed_more first more failed)

-- files that tell what they have never fail
got_well : (bytes : List ℕ) (over : Bool) → (if over then got.TooLarge else got.Bytes bytes) ≡ got.Failed → ⊥
got_well bytes true is = cc is
got_well bytes false is = cc is

given_well : (o : Option (List ℕ)) → given_for o ≡ got.Failed → ⊥
given_well None is = cc is
given_well (Some bytes) is = got_well bytes (nat_lt file_limit (length bytes)) is

pub never_failed : (files : Files) (reads : List Read) → AreGiven files reads → HasFailed reads → ⊥
never_failed files [] are failed = failed
never_failed files (r ∷ reads) are (inl failed) = given_well (bytes_of files r.name) (sym are.0 ∙ failed)
never_failed files (r ∷ reads) are (inr later) = never_failed files reads are.1 later

-- reads that agree do so at first
pub agree_first : (first more others rest : List Read) → DoAgree (first ++ more) (others ++ rest) → DoAgree first others
agree_first [] more others rest agree = tt
agree_first (r ∷ first) more [] rest agree = tt
agree_first (r ∷ first) more (q ∷ others) rest agree = λ same. ((agree same).0, agree_first first more others rest (agree same).1)

-- the last of the same reads is the same
no_more : (xs : List Read) (x : Read) → [] ≡ xs ++ x ∷ [] → ⊥
no_more [] x is = cc is
no_more (y ∷ xs) x is = cc is

pub last_same : (xs ys : List Read) (x y : Read) → xs ++ x ∷ [] ≡ ys ++ y ∷ [] → x ≡ y
last_same [] [] x y is = cc is
last_same [] (z ∷ ys) x y is = absurd (no_more ys y (cc is))
last_same (z ∷ xs) [] x y is = absurd (no_more xs x (sym (cc is)))
last_same (z ∷ xs) (w ∷ ys) x y is = last_same xs ys x y (cc is)
