-- The numbers below 64 whose bits are set in a word, in increasing order: how a set of small numbers is kept in one word.
use Rattle.std.specs.Prelude.{ℕ, zero, suc, List, [], ◌∷◌, ◌==◌, if◌then◌else◌}
use Rattle.std.specs.Int.{bit_at}

-- of so many places, from one on
abbrev pub bits_from : ℕ → ℕ → ℕ → List ℕ
bits_from word at zero = []
bits_from word at (suc n) = if bit_at word at == 1 then at ∷ bits_from word (suc at) n else bits_from word (suc at) n

unfoldable pub bits_of : ℕ → List ℕ
bits_of word = bits_from word 0 64
