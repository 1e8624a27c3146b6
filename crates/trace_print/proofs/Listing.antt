-- How lines follow one another.
use Rattle.std.proofs.Common.{◌≡◌, ℕ, ◌+◌, ◌≤◌, Bool, true, false, List, [], ◌∷◌, ◌++◌, length, map, drop, ap, subst, sym, true≢false}
use Rattle.std.proofs.lemmas.List.{drop_all}
use Rattle.ruby_outside.specs.declared.sink.Wrote.{Wrote}
use Rattle.trace_print.specs.Prelude.{IsLinePut, AreLinesPut, all_put, line_put, line_cut}

module _ {S : Type 0} (writes : S → List ℕ → Wrote → S → Type 0) where
  pub one_line : (before after : S) (line : List ℕ) (whole : Bool) → IsLinePut writes before line whole after → AreLinesPut writes before (line ∷ []) whole after
  one_line before after line true put = line_put before after after line [] true put (all_put after)
  one_line before after line false put = line_cut before after line [] put

  -- lines, and then others
  pub lines_on : (before : S) (xs : List (List ℕ)) (first : Bool) (middle : S) → AreLinesPut writes before xs first middle
      → (ys : List (List ℕ)) (whole : Bool) (after : S) → first ≡ true → AreLinesPut writes middle ys whole after → AreLinesPut writes before (xs ++ ys) whole after
  lines_on _ _ _ _ (AreLinesPut.all_put before) ys whole after is rest = rest
  lines_on _ _ _ _ (AreLinesPut.line_put before middle last line lines w put more) ys whole after is rest =
      line_put before middle after line (lines ++ ys) whole put (lines_on middle lines w last more ys whole after is rest)
  lines_on _ _ _ _ (AreLinesPut.line_cut before last line lines put) ys whole after is rest = absurd (true≢false (sym is))

  pub lines_stopped : (before : S) (xs : List (List ℕ)) (first : Bool) (after : S) → AreLinesPut writes before xs first after
      → (ys : List (List ℕ)) → first ≡ false → AreLinesPut writes before (xs ++ ys) false after
  lines_stopped _ _ _ _ (AreLinesPut.all_put before) ys is = absurd (true≢false is)
  lines_stopped _ _ _ _ (AreLinesPut.line_put before middle last line lines w put more) ys is =
      line_put before middle last line (lines ++ ys) false put (lines_stopped middle lines w last more ys is)
  lines_stopped _ _ _ _ (AreLinesPut.line_cut before last line lines put) ys is = line_cut before last line (lines ++ ys) put

  -- the line of one of several, and those of what comes after it
  pub next_line : {X : Type 0} (f : X → List ℕ) (xs : List X) (i : ℕ) (x : X) (before middle after : S) (whole : Bool)
      → drop i xs ≡ x ∷ drop (i + 1) xs → IsLinePut writes before (f x) true middle
      → AreLinesPut writes middle (map f (drop (i + 1) xs)) whole after → AreLinesPut writes before (map f (drop i xs)) whole after
  next_line f xs i x before middle after whole here put rest =
      let P : List (List ℕ) → Type 0 = λ lines. AreLinesPut writes before lines whole after in
      subst P (ap (map f) (sym here)) (line_put before middle after (f x) (map f (drop (i + 1) xs)) whole put rest)

  pub last_line : {X : Type 0} (f : X → List ℕ) (xs : List X) (i : ℕ) (x : X) (before after : S)
      → drop i xs ≡ x ∷ drop (i + 1) xs → IsLinePut writes before (f x) false after → AreLinesPut writes before (map f (drop i xs)) false after
  last_line f xs i x before after here put =
      let P : List (List ℕ) → Type 0 = λ lines. AreLinesPut writes before lines false after in
      subst P (ap (map f) (sym here)) (line_cut before after (f x) (map f (drop (i + 1) xs)) put)

  pub no_line : {X : Type 0} (f : X → List ℕ) (xs : List X) (i : ℕ) (before : S) → length xs ≤ i → AreLinesPut writes before (map f (drop i xs)) true before
  no_line f xs i before past =
      let P : List (List ℕ) → Type 0 = λ lines. AreLinesPut writes before lines true before in
      subst P (ap (map f) (sym (drop_all i xs past))) (all_put before)
