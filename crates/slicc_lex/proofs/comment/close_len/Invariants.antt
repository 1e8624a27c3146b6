use Rattle.std.proofs.Common.{◌≡◌, ◌+◌, length}
use Rattle.std.specs.Option.{option_map}
use Rattle.slicc_lex.specs.Prelude.{close_len}
use Rattle.slicc_lex.proofs.comment.close_len.Given as goal

-- what is left closes so many bytes later than the bytes do
abbrev pub invariant-loop-rest : goal.invariant-loop-rest
invariant-loop-rest l = (close_len l.bytes ≡ option_map (λ n. l.seen + n) (close_len l.rest)) × (l.seen + length l.rest ≡ length l.bytes)

abbrev pub decreases-loop-rest : goal.decreases-loop-rest
decreases-loop-rest l = length l.rest
