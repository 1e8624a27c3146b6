-- A draw below a bound: word n of the stream, modulo the bound. The rule is this project's own. Nothing here says
-- that the draws are even: for a bound that is no power of two the small ones are a little more frequent.
use Rattle.std.specs.Prelude.{ℕ, ◌%◌}
use Rattle.pcg_words.specs.Word.{word}

abbrev pub below : ℕ → ℕ → ℕ → ℕ → ℕ
below seed stream n bound = word seed stream n % bound
