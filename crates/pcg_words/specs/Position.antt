-- Where somebody stands who draws from a stream of random words: the seed, the stream and the count of words that
-- are drawn, which is the number of the next word. The count runs on from 2 ^ 64 - 1 to 0, where the stream itself
-- begins again. The words that lie there are those of `Word.antt`.
use Rattle.std.specs.Prelude.{ℕ, ◌+◌, ◌%◌, ◌^◌}

pub record Position : Type 0 where
  pub seed : ℕ
  pub stream : ℕ
  pub drawn : ℕ

-- one word further on
abbrev pub next_position : Position → Position
next_position p = record p { drawn = (p.drawn + 1) % 2 ^ 64 }
