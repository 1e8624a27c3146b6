use Rattle.std.proofs.Common.{◌≡◌, ◌≤◌, take}
use Rattle.slicc_lex.specs.Prelude.{number_of}
use Rattle.slicc_lex.proofs.number.number_of.Given as goal

-- the number that the digits so far stand for
abbrev pub invariant-loop-digit : goal.invariant-loop-digit
invariant-loop-digit l = (l.number ≡ number_of l.base (take l.digit-index l.digits)) × (l.number ≤ 9223372036854775807)
