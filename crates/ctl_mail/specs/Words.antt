-- The words of a seed and a stream from the next one on, when so many are drawn.
use Rattle.std.specs.Prelude.{ℕ}
use Rattle.pcg_words.specs.Prelude.{Position}

abbrev pub words_at : (seed stream drawn : ℕ) → Position
words_at seed stream drawn = record { seed = seed; stream = stream; drawn = drawn }
