use Rattle.std.proofs.Common.{length}
use Rattle.random_tester.proofs.Waiting.{NoneBelow, above, asked_at}
use Rattle.random_tester.proofs.late.late_at.Given as goal

-- of the requests at or below the line, none has waited for so long
abbrev pub invariant-loop-a : goal.invariant-loop-a
invariant-loop-a g l = NoneBelow l.deadlock l.now (asked_at (g.S.Seats.view l.seats).kept.seats l.k) l.line

abbrev pub decreases-loop-a : goal.decreases-loop-a
decreases-loop-a g l = length (above l.line (asked_at (g.S.Seats.view l.seats).kept.seats l.k))
