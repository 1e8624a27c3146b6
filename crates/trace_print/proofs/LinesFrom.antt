-- How the lines of what is numbered follow one another.
use Rattle.std.proofs.Common.{◌≡◌, ℕ, ◌+◌, ◌≤◌, Bool, true, false, List, ◌∷◌, length, drop, subst, sym, refl}
use Rattle.std.proofs.lemmas.List.{drop_all}
use Rattle.ruby_outside.specs.declared.sink.Wrote.{Wrote}
use Rattle.trace_print.specs.Prelude.{AreLinesPut, all_put, lines_from}
use Rattle.trace_print.proofs.Listing.{lines_on, lines_stopped}

module _ {S : Type 0} (writes : S → List ℕ → Wrote → S → Type 0) {X : Type 0} (lines : ℕ → X → List (List ℕ)) (xs : List X) (n : ℕ) where
  pub lines_next : (x : X) (before middle after : S) (whole : Bool)
      → drop n xs ≡ x ∷ drop (n + 1) xs → AreLinesPut writes before (lines n x) true middle
      → AreLinesPut writes middle (lines_from lines (n + 1) (drop (n + 1) xs)) whole after → AreLinesPut writes before (lines_from lines n (drop n xs)) whole after
  lines_next x before middle after whole here put rest =
      let P : List X → Type 0 = λ ys. AreLinesPut writes before (lines_from lines n ys) whole after in
      subst P (sym here) (lines_on writes before (lines n x) true middle put (lines_from lines (n + 1) (drop (n + 1) xs)) whole after refl rest)

  pub lines_cut : (x : X) (before after : S)
      → drop n xs ≡ x ∷ drop (n + 1) xs → AreLinesPut writes before (lines n x) false after → AreLinesPut writes before (lines_from lines n (drop n xs)) false after
  lines_cut x before after here put =
      let P : List X → Type 0 = λ ys. AreLinesPut writes before (lines_from lines n ys) false after in
      subst P (sym here) (lines_stopped writes before (lines n x) false after put (lines_from lines (n + 1) (drop (n + 1) xs)) refl)

  pub no_lines : (before : S) → length xs ≤ n → AreLinesPut writes before (lines_from lines n (drop n xs)) true before
  no_lines before past =
      let P : List X → Type 0 = λ ys. AreLinesPut writes before (lines_from lines n ys) true before in
      subst P (sym (drop_all n xs past)) (all_put before)
