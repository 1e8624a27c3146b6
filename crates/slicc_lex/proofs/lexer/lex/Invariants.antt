use Rattle.std.proofs.Common.{length}
use Rattle.slicc_lex.proofs.Lexed.{Lexed}
use Rattle.slicc_lex.proofs.lexer.lex.Given as goal

abbrev pub invariant-loop-rest : goal.invariant-loop-rest
invariant-loop-rest l = Lexed l.file l.bytes l.tokens l.at l.rest

abbrev pub decreases-loop-rest : goal.decreases-loop-rest
decreases-loop-rest l = length l.rest
