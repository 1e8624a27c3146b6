-- What is added to a line in parts, and lines that are ended.
use Rattle.std.proofs.Common.{◌≡◌, ℕ, ◌+◌, ◌≤◌, Bool, true, false, List, [], ◌∷◌, ◌++◌, length, map, drop, ap, subst, sym, ◌∙◌, append_assoc, append-nil}
use Rattle.std.proofs.lemmas.List.{drop_all}
use Rattle.ruby_outside.specs.declared.sink.Wrote.{Wrote}
use Rattle.ruby_outside.specs.Prelude.{IsPut}
use Rattle.trace_print.specs.Prelude.{IsAdded, spaced, IsLinePut, as_one_piece}

module _ {S : Type 0} (writes : S → List ℕ → Wrote → S → Type 0) where
  -- a line that is known by other bytes
  pub same_line : (before after : S) (whole : Bool) (a b : List ℕ) → a ≡ b → IsLinePut writes before a whole after → IsLinePut writes before b whole after
  same_line before after whole a b is put = let P : List ℕ → Type 0 = λ l. IsLinePut writes before l whole after in subst P is put

  in_two : (before after : S) (whole : Bool) (held a b rest : List ℕ) → IsLinePut writes before (held ++ (a ++ (b ++ rest))) whole after → IsLinePut writes before (held ++ ((a ++ b) ++ rest)) whole after
  in_two before after whole held a b rest put =
      same_line before after whole (held ++ (a ++ (b ++ rest))) (held ++ ((a ++ b) ++ rest)) (ap (λ (l : List ℕ). held ++ l) (sym (append_assoc a b rest))) put

  -- first some bytes, and then others
  pub both_added : (before middle after : S) (held held1 held2 a b : List ℕ) (whole : Bool)
      → IsAdded writes before held a true middle held1 → IsAdded writes middle held1 b whole after held2 → IsAdded writes before held (a ++ b) whole after held2
  both_added before middle after held held1 held2 a b true p q =
      record {
        goes_on = λ rest w last put. in_two before last w held a b rest (p.goes_on (b ++ rest) w last (q.goes_on rest w last put));
        cut_off = tt;
      }
  both_added before middle after held held1 held2 a b false p q =
      record {
        goes_on = tt;
        cut_off = λ rest. in_two before after false held a b rest (p.goes_on (b ++ rest) false after (q.cut_off rest));
      }

  -- the first bytes were cut off
  pub first_cut : (before middle : S) (held held1 held2 a b : List ℕ) → IsAdded writes before held a false middle held1 → IsAdded writes before held (a ++ b) false middle held2
  first_cut before middle held held1 held2 a b p =
      record {
        goes_on = tt;
        cut_off = λ rest. in_two before middle false held a b rest (p.cut_off (b ++ rest));
      }

  -- the last bytes were added, and all that is held is put as one piece
  pub line_ended : (before middle after : S) (held held1 a piece : List ℕ) (whole : Bool) → piece ≡ held1 → length piece ≤ 1024
      → IsAdded writes before held a true middle held1 → IsPut writes middle piece whole after → IsLinePut writes before (held ++ a) whole after
  line_ended before middle after held held1 a piece whole all small p put =
      same_line before after whole (held ++ (a ++ [])) (held ++ a) (ap (λ (l : List ℕ). held ++ l) (append-nil a))
      (p.goes_on [] whole after (same_line middle after whole piece (held1 ++ []) (all ∙ sym (append-nil held1)) (as_one_piece middle after piece whole small put)))

  pub line_cut_off : (before middle : S) (held held1 a : List ℕ) → IsAdded writes before held a false middle held1 → IsLinePut writes before (held ++ a) false middle
  line_cut_off before middle held held1 a p =
      same_line before middle false (held ++ (a ++ [])) (held ++ a) (ap (λ (l : List ℕ). held ++ l) (append-nil a)) (p.cut_off [])

  -- a line that was begun with nothing held, and then ended
  pub line_made : (before middle after : S) (held held1 a b : List ℕ) (whole : Bool) → held ≡ []
      → IsAdded writes before held a true middle held1 → IsLinePut writes middle (held1 ++ b) whole after → IsLinePut writes before (a ++ b) whole after
  line_made before middle after held held1 a b whole empty p put =
      same_line before after whole (held ++ (a ++ b)) (a ++ b) (ap (λ (l : List ℕ). l ++ (a ++ b)) empty) (p.goes_on b whole after put)

  pub line_not_made : (before middle : S) (held held1 a b : List ℕ) → held ≡ []
      → IsAdded writes before held a false middle held1 → IsLinePut writes before (a ++ b) false middle
  line_not_made before middle held held1 a b empty p =
      same_line before middle false (held ++ (a ++ b)) (a ++ b) (ap (λ (l : List ℕ). l ++ (a ++ b)) empty) (p.cut_off b)

  -- the same of a line whose second part is in two
  pub line_made_of : (before middle after : S) (held held1 a b c : List ℕ) (whole : Bool) → held ≡ []
      → IsAdded writes before held (a ++ b) true middle held1 → IsLinePut writes middle (held1 ++ c) whole after → IsLinePut writes before (a ++ (b ++ c)) whole after
  line_made_of before middle after held held1 a b c whole empty p put =
      same_line before after whole ((a ++ b) ++ c) (a ++ (b ++ c)) (append_assoc a b c) (line_made before middle after held held1 (a ++ b) c whole empty p put)

  pub line_not_made_of : (before middle : S) (held held1 a b c : List ℕ) → held ≡ []
      → IsAdded writes before held (a ++ b) false middle held1 → IsLinePut writes before (a ++ (b ++ c)) false middle
  line_not_made_of before middle held held1 a b c empty p =
      same_line before middle false ((a ++ b) ++ c) (a ++ (b ++ c)) (append_assoc a b c) (line_not_made before middle held held1 (a ++ b) c empty p)

  -- one of several words, and those after it
  word_next : {X : Type 0} (f : X → List ℕ) (xs : List X) (i : ℕ) (x : X) (bytes rest : List ℕ) → drop i xs ≡ x ∷ drop (i + 1) xs → bytes ≡ f x
      → (32 ∷ bytes) ++ (spaced (map f (drop (i + 1) xs)) ++ rest) ≡ spaced (map f (drop i xs)) ++ rest
  word_next f xs i x bytes rest here is =
      ap (λ word. (32 ∷ word) ++ (spaced (map f (drop (i + 1) xs)) ++ rest)) is
      ∙ sym (append_assoc (32 ∷ f x) (spaced (map f (drop (i + 1) xs))) rest) ∙ ap (λ ys. spaced (map f ys) ++ rest) (sym here)

  pub word_on : {X : Type 0} (f : X → List ℕ) (xs : List X) (i : ℕ) (x : X) (before middle after : S) (held held1 bytes rest : List ℕ) (whole : Bool)
      → drop i xs ≡ x ∷ drop (i + 1) xs → bytes ≡ f x
      → IsAdded writes before held (32 ∷ bytes) true middle held1
      → IsLinePut writes middle (held1 ++ (spaced (map f (drop (i + 1) xs)) ++ rest)) whole after
      → IsLinePut writes before (held ++ (spaced (map f (drop i xs)) ++ rest)) whole after
  word_on f xs i x before middle after held held1 bytes rest whole here is p on =
      same_line before after whole (held ++ ((32 ∷ bytes) ++ (spaced (map f (drop (i + 1) xs)) ++ rest))) (held ++ (spaced (map f (drop i xs)) ++ rest)) (ap (λ (l : List ℕ). held ++ l) (word_next f xs i x bytes rest here is))
      (p.goes_on (spaced (map f (drop (i + 1) xs)) ++ rest) whole after on)

  pub word_cut : {X : Type 0} (f : X → List ℕ) (xs : List X) (i : ℕ) (x : X) (before middle : S) (held held1 bytes rest : List ℕ)
      → drop i xs ≡ x ∷ drop (i + 1) xs → bytes ≡ f x
      → IsAdded writes before held (32 ∷ bytes) false middle held1
      → IsLinePut writes before (held ++ (spaced (map f (drop i xs)) ++ rest)) false middle
  word_cut f xs i x before middle held held1 bytes rest here is p =
      same_line before middle false (held ++ ((32 ∷ bytes) ++ (spaced (map f (drop (i + 1) xs)) ++ rest))) (held ++ (spaced (map f (drop i xs)) ++ rest)) (ap (λ (l : List ℕ). held ++ l) (word_next f xs i x bytes rest here is))
      (p.cut_off (spaced (map f (drop (i + 1) xs)) ++ rest))

  pub no_word : {X : Type 0} (f : X → List ℕ) (xs : List X) (i : ℕ) (before after : S) (held rest : List ℕ) (whole : Bool)
      → length xs ≤ i → IsLinePut writes before (held ++ rest) whole after → IsLinePut writes before (held ++ (spaced (map f (drop i xs)) ++ rest)) whole after
  no_word f xs i before after held rest whole past put =
      same_line before after whole (held ++ rest) (held ++ (spaced (map f (drop i xs)) ++ rest)) (ap (λ ys. held ++ (spaced (map f ys) ++ rest)) (sym (drop_all i xs past))) put
