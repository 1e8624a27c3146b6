use Rattle.std.proofs.Common.{sym, ◌∙◌, arith}
use Rattle.std.proofs.lemmas.Bool.Decides.{nat_tests}
use Rattle.random_tester.proofs.Waiting.{asked_at, fewer-above, none-below, still-none}
use Rattle.random_tester.proofs.late.late_at.Goals as goal

pub loop-a-init : goal.loop-a-init
loop-a-init g c = none-below c.args.deadlock c.args.now (asked_at (g.S.Seats.view c.args.seats.now).kept.seats c.args.k)

pub loop-a-preserved : goal.loop-a-preserved
loop-a-preserved g c =
    still-none c.args.deadlock c.args.now (g.S.Seats.view c.args.seats.now).kept.seats c.args.k c.requires.fit c.loop-a.line c.in-Some.a
    (sym c.next_after.ensures.value ∙ c.in-Some.is)
    (grind (arith, nat_tests, c.saturating_sub.ensures, c.if-saturating_sub-deadlock.false))
    c.loop-a.invariant

pub loop-a-smaller : goal.loop-a-smaller
loop-a-smaller g c =
    fewer-above c.args.deadlock c.args.now (g.S.Seats.view c.args.seats.now).kept.seats c.args.k c.requires.fit c.loop-a.line c.in-Some.a
    (sym c.next_after.ensures.value ∙ c.in-Some.is)
