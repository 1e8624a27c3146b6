-- How one write more goes on with what is left of a piece, and what became of a piece that went to a lawful sink.
use Rattle.std.proofs.Common.{◌≡◌, ℕ, ◌+◌, ◌-◌, ◌≤◌, ◌<◌, Bool, true, false, List, [], ◌++◌, length, take, drop, Option, refl, ap, ◌∙◌, subst, sym, arith, length-drop}
use Rattle.std.proofs.Math.ListN.{drop_of_length-le}
use Rattle.std.proofs.lemmas.List.{drop-drop, take_rest, take-append-drop}
use Rattle.ruby_outside.specs.declared.sink.Wrote.{Wrote}
use Rattle.ruby_outside.specs.declared.sink.Wrote.TheVariants.{Took, Failed}
use Rattle.ruby_outside.specs.Prelude.{Rose, grown, IsLawfulWrite, IsWritten, IsPut, all_taken, went_on, got_stuck, met_fault}
use Rattle.ruby_outside.proofs.Counts.{rose_behind}
use Rattle.ruby_outside.proofs.Growth.{grown-append, grown-nil, cut_behind}

pub left_some : (piece : List ℕ) (done : ℕ) → done < length piece → 0 < length (drop done piece)
left_some piece done more = omega (arith, more, length-drop done piece)

pub goes_on : {S : Type 0} (writes : S → List ℕ → Wrote → S → Type 0) (before middle after : S) (piece : List ℕ) (done count : ℕ) (whole : Bool)
    → 0 < count → writes before (take (length piece - done) (drop done piece)) (Took count) middle
    → IsPut writes middle (drop (done + count) piece) whole after → IsPut writes before (drop done piece) whole after
goes_on {S} writes before middle after piece done count whole some wrote rest =
    let P : List ℕ → Type 0 = λ left. writes before left (Took count) middle in
    let R : List ℕ → Type 0 = λ left. IsPut writes middle left whole after in
    went_on before middle after (drop done piece) count whole some (subst P (take_rest piece done) wrote) (subst R (sym (drop-drop count done piece)) rest)

pub stuck : {S : Type 0} (writes : S → List ℕ → Wrote → S → Type 0) (before after : S) (piece : List ℕ) (done : ℕ) (wrote : Wrote)
    → done < length piece → wrote ≡ Took 0 → writes before (take (length piece - done) (drop done piece)) wrote after → IsPut writes before (drop done piece) false after
stuck {S} writes before after piece done wrote more none is =
    let P : List ℕ → Type 0 = λ left. writes before left (Took 0) after in
    let R : Wrote → Type 0 = λ w. writes before (take (length piece - done) (drop done piece)) w after in
    got_stuck before after (drop done piece) (left_some piece done more) (subst P (take_rest piece done) (subst R none is))

pub fails : {S : Type 0} (writes : S → List ℕ → Wrote → S → Type 0) (before after : S) (piece : List ℕ) (done : ℕ) (wrote : Wrote)
    → done < length piece → wrote ≡ Failed → writes before (take (length piece - done) (drop done piece)) wrote after → IsPut writes before (drop done piece) false after
fails {S} writes before after piece done wrote more failed is =
    let P : List ℕ → Type 0 = λ left. writes before left Failed after in
    let R : Wrote → Type 0 = λ w. writes before (take (length piece - done) (drop done piece)) w after in
    met_fault before after (drop done piece) (left_some piece done more) (subst P (take_rest piece done) (subst R failed is))

-- nothing is left
pub all_left : {S : Type 0} (writes : S → List ℕ → Wrote → S → Type 0) (before : S) (piece : List ℕ) (done : ℕ)
    → length piece ≤ done → IsPut writes before (drop done piece) true before
all_left {S} writes before piece done none =
    let P : List ℕ → Type 0 = λ left. IsPut writes before left true before in
    subst P (sym (drop_of_length-le piece none)) (all_taken before)

-- a front that was taken whole, and then what became of the rest
pub written_on : (told told' told'' : Option (List ℕ)) (faults faults' faults'' : ℕ) (first rest : List ℕ) (whole : Bool)
    → told' ≡ grown told first → faults ≤ faults' → IsWritten told' faults' rest whole told'' faults'' → IsWritten told faults (first ++ rest) whole told'' faults''
written_on told told' told'' faults faults' faults'' first rest true grew falls is =
    record {
      counts = omega (arith, falls, is.counts);
      whole = is.whole ∙ ap (λ (t : Option (List ℕ)). grown t rest) grew ∙ grown-append told first rest;
      cut_off = tt;
      cause = tt;
    }
written_on told told' told'' faults faults' faults'' first rest false grew falls is =
    record {
      counts = omega (arith, falls, is.counts);
      whole = tt;
      cut_off = cut_behind told told' first rest told'' grew is.cut_off;
      cause = rose_behind faults faults' faults'' falls is.cause;
    }

pub nothing_written : (told : Option (List ℕ)) (faults : ℕ) → IsWritten told faults [] true told faults
nothing_written told faults = record { counts = omega arith; whole = sym (grown-nil told); cut_off = tt; cause = tt }

-- none of a piece was taken, and the count rose
pub none_taken : (told told' : Option (List ℕ)) (faults faults' : ℕ) (piece : List ℕ)
    → 0 < length piece → told' ≡ grown told (take 0 piece) → faults ≤ faults' → Rose faults faults' → IsWritten told faults piece false told' faults'
none_taken told told' faults faults' piece some grew falls rose =
    record { counts = falls; whole = tt; cut_off = (0, some, grew); cause = rose }

module _ {S : Type 0} (written : S → Option (List ℕ)) (faults : S → ℕ) (writes : S → List ℕ → Wrote → S → Type 0) (lawful : (before : S) (piece : List ℕ) (wrote : Wrote) (after : S) → writes before piece wrote after → IsLawfulWrite (written before) (faults before) piece wrote (written after) (faults after)) where
  -- what became of a piece, by the writes that it went by
  pub put_written : (before : S) (piece : List ℕ) (whole : Bool) (after : S) → IsPut writes before piece whole after → IsWritten (written before) (faults before) piece whole (written after) (faults after)
  put_written _ _ _ _ (IsPut.all_taken before) = nothing_written (written before) (faults before)
  put_written _ _ _ _ (IsPut.went_on before middle after piece count whole some wrote rest) =
      let is = lawful before piece (Took count) middle wrote in
      let P : List ℕ → Type 0 = λ all. IsWritten (written before) (faults before) all whole (written after) (faults after) in
      subst P (take-append-drop count piece)
      (written_on (written before) (written middle) (written after) (faults before) (faults middle) (faults after) (take count piece) (drop count piece) whole is.grows is.counts
      (put_written middle (drop count piece) whole after rest))
  put_written _ _ _ _ (IsPut.got_stuck before after piece some wrote) =
      let is = lawful before piece (Took 0) after wrote in
      none_taken (written before) (written after) (faults before) (faults after) piece some is.grows is.counts (is.stuck refl some)
  put_written _ _ _ _ (IsPut.met_fault before after piece some wrote) =
      let is = lawful before piece Failed after wrote in
      none_taken (written before) (written after) (faults before) (faults after) piece some is.grows is.counts (is.failed refl)
