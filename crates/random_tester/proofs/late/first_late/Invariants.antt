use Rattle.random_tester.proofs.Waiting.{LateFrom}
use Rattle.random_tester.proofs.late.first_late.Given as goal

-- at the seats before this one none has waited for so long
abbrev pub invariant-loop-k : goal.invariant-loop-k
invariant-loop-k g l = LateFrom l.deadlock l.now (g.S.Seats.view l.seats).kept.seats l.k
