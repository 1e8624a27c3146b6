-- Word n, counted from 0, of the stream of random words that a seed and a stream number name: `rand_pcg`'s
-- generator `Lcg64Xsh32::new(seed, stream)` is asked for n words, and then for this one. That an actor draws from
-- its own such stream is this project's rule; the generator is O'Neill's. Nothing here says how the state after n
-- words is found, nor which of the words anybody draws.
use Rattle.std.specs.Prelude.{ℕ, zero, suc}
use Rattle.rand_pcg.specs.Lcg.{Lcg, started, increment_of}
use Rattle.rand_pcg.specs.Pcg.{multiplier_64, pcg32}

-- the generator when n words are drawn
unfoldable pub generator_after : ℕ → ℕ → ℕ → Lcg
generator_after seed stream zero = started 64 multiplier_64 seed (increment_of 64 stream)
generator_after seed stream (suc n) = (pcg32 (generator_after seed stream n)).1

unfoldable pub word : ℕ → ℕ → ℕ → ℕ
word seed stream n = (pcg32 (generator_after seed stream n)).0
