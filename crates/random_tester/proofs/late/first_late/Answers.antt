use Rattle.std.proofs.Common.{sym, ◌∙◌, add-one, arith}
use Rattle.random_tester.proofs.Waiting.{late-found, late-on}
use Rattle.random_tester.proofs.late.first_late.Goals as goal

pub returns-in-Some : goal.returns-in-Some
returns-in-Some g c =
    late-found c.args.deadlock c.args.now (g.S.Seats.view c.args.seats.now).kept.seats c.loop-k.k c.in-Some.found
    (omega (arith, c.loop-k-test.true, c.count-k-end.ensures))
    (λ s at. sym c.in-Some.is ∙ c.late_at.ensures s at)
    c.loop-k.invariant

pub loop-k-preserved : goal.loop-k-preserved
loop-k-preserved g c =
    rw add-one
    (late-on c.args.deadlock c.args.now (g.S.Seats.view c.args.seats.now).kept.seats c.loop-k.k
    (omega (arith, c.loop-k-test.true, c.count-k-end.ensures))
    (λ s at. sym c.in-None.is ∙ c.late_at.ensures s at)
    c.loop-k.invariant)
