-- How lines go to a sink, one after the other, up to the first that isn't written whole. A line of at most 1,024 bytes, its line feed
-- counted, is one piece. Of a longer one the first 1,024 bytes are a piece, and then its rest goes as a line. The bound is this
-- project's own.
use Rattle.std.specs.Prelude.{ℕ, ◌<◌, ◌≤◌, Bool, true, false, List, [], ◌∷◌, length, take, drop}
use Rattle.std.specs.List.{concat}
use Rattle.ruby_outside.specs.declared.sink.Wrote.{Wrote}
use Rattle.ruby_outside.specs.Prelude.{IsPut}

-- the sink before, the line, whether it was written whole, and the sink after
pub data IsLinePut {S : Type 0} (writes : S → List ℕ → Wrote → S → Type 0) : S → List ℕ → Bool → S → Type 0 where
  as_one_piece :
      (before after : S) (line : List ℕ) (whole : Bool)
      → length line ≤ 1024 → IsPut writes before line whole after
      → IsLinePut writes before line whole after
  in_pieces :
      (before middle after : S) (line : List ℕ) (whole : Bool)
      → 1024 < length line → IsPut writes before (take 1024 line) true middle
      → IsLinePut writes middle (drop 1024 line) whole after
      → IsLinePut writes before line whole after
  cut_in_piece :
      (before after : S) (line : List ℕ)
      → 1024 < length line → IsPut writes before (take 1024 line) false after
      → IsLinePut writes before line false after

-- the sink before, the lines, whether all were written whole, and the sink after
pub data AreLinesPut {S : Type 0} (writes : S → List ℕ → Wrote → S → Type 0) : S → List (List ℕ) → Bool → S → Type 0 where
  all_put : (before : S) → AreLinesPut writes before [] true before
  line_put :
      (before middle after : S) (line : List ℕ) (lines : List (List ℕ)) (whole : Bool)
      → IsLinePut writes before line true middle → AreLinesPut writes middle lines whole after
      → AreLinesPut writes before (line ∷ lines) whole after
  line_cut :
      (before after : S) (line : List ℕ) (lines : List (List ℕ))
      → IsLinePut writes before line false after
      → AreLinesPut writes before (line ∷ lines) false after

-- all the bytes of lines
abbrev pub text_of : List (List ℕ) → List ℕ
text_of lines = concat lines
