use Rattle.std.proofs.Common.{sym, ◌∙◌, arith}
use Rattle.random_tester.proofs.Taking.{end-none, end-stop, next-fewer, next-same, on-fewer, on-same}
use Rattle.random_tester.proofs.tester.Tester.take.Goals as goal

pub returns-in-Some-judge-clause-tester : goal.returns-in-Some-judge-clause-tester
returns-in-Some-judge-clause-tester g c =
    (end-stop c.loop-k.self (g.S.Seats.view c.loop-k.seats).kept.seats c.loop-k.k c.args.self.now (g.S.Seats.view c.args.seats.now).kept.seats 0 c.loop-k.invariant.same
    c.controller-controller.result c.in-Some.a (sym c.take_done.ensures.value ∙ c.in-Some.is) c.controller-controller.ensures
    c.judge.new.self c.judge.result (g.S.Seats.view c.take_done.new.self).kept.seats c.judge.ensures.tester c.judge.ensures.finding c.take_done.ensures.seats
    c.in-Some-judge.found c.in-Some-judge.is).tester

pub returns-in-Some-judge-clause-seats : goal.returns-in-Some-judge-clause-seats
returns-in-Some-judge-clause-seats g c =
    (end-stop c.loop-k.self (g.S.Seats.view c.loop-k.seats).kept.seats c.loop-k.k c.args.self.now (g.S.Seats.view c.args.seats.now).kept.seats 0 c.loop-k.invariant.same
    c.controller-controller.result c.in-Some.a (sym c.take_done.ensures.value ∙ c.in-Some.is) c.controller-controller.ensures
    c.judge.new.self c.judge.result (g.S.Seats.view c.take_done.new.self).kept.seats c.judge.ensures.tester c.judge.ensures.finding c.take_done.ensures.seats
    c.in-Some-judge.found c.in-Some-judge.is).places

pub returns-in-Some-judge-clause-finding : goal.returns-in-Some-judge-clause-finding
returns-in-Some-judge-clause-finding g c =
    sym c.in-Some-judge.is
    ∙ (end-stop c.loop-k.self (g.S.Seats.view c.loop-k.seats).kept.seats c.loop-k.k c.args.self.now (g.S.Seats.view c.args.seats.now).kept.seats 0 c.loop-k.invariant.same
    c.controller-controller.result c.in-Some.a (sym c.take_done.ensures.value ∙ c.in-Some.is) c.controller-controller.ensures
    c.judge.new.self c.judge.result (g.S.Seats.view c.take_done.new.self).kept.seats c.judge.ensures.tester c.judge.ensures.finding c.take_done.ensures.seats
    c.in-Some-judge.found c.in-Some-judge.is).finding

pub loop-k-preserved-in_default : goal.loop-k-preserved-in_default
loop-k-preserved-in_default g c =
    record {
      same = on-same c.loop-k.self (g.S.Seats.view c.loop-k.seats).kept.seats c.loop-k.k c.args.self.now (g.S.Seats.view c.args.seats.now).kept.seats 0 c.loop-k.invariant.same
          c.controller-controller.result c.in-Some.a (sym c.take_done.ensures.value ∙ c.in-Some.is) c.controller-controller.ensures
          c.judge.new.self c.judge.result (g.S.Seats.view c.take_done.new.self).kept.seats c.judge.ensures.tester c.judge.ensures.finding c.take_done.ensures.seats
          c.in_default.is;
      issued = c.take_done.ensures.issued ∙ c.loop-k.invariant.issued;
      room = omega (arith, c.loop-k.invariant.room, c.take_done.ensures.room);
      within = omega (arith, c.loop-k.invariant.within, c.take_done.ensures.count);
    }

pub loop-k-smaller-in_default : goal.loop-k-smaller-in_default
loop-k-smaller-in_default g c =
    on-fewer c.loop-k.self (g.S.Seats.view c.loop-k.seats).kept.seats c.loop-k.k c.args.self.now (g.S.Seats.view c.args.seats.now).kept.seats 0 c.loop-k.invariant.same
    c.controller-controller.result c.in-Some.a (sym c.take_done.ensures.value ∙ c.in-Some.is) c.controller-controller.ensures
    c.judge.new.self c.judge.result (g.S.Seats.view c.take_done.new.self).kept.seats c.judge.ensures.tester c.judge.ensures.finding c.take_done.ensures.seats

pub loop-k-preserved : goal.loop-k-preserved
loop-k-preserved g c =
    record {
      same = next-same c.loop-k.self (g.S.Seats.view c.loop-k.seats).kept.seats c.loop-k.k c.args.self.now (g.S.Seats.view c.args.seats.now).kept.seats 0 c.loop-k.invariant.same (g.S.Seats.view c.take_done.new.self).kept.seats (omega (arith, c.loop-k-test.true, c.count.ensures)) (sym c.take_done.ensures.value ∙ c.in-None.is) c.take_done.ensures.seats;
      issued = c.take_done.ensures.issued ∙ c.loop-k.invariant.issued;
      room = omega (arith, c.loop-k.invariant.room, c.take_done.ensures.room);
      within = omega (arith, c.loop-k-test.true, c.count.ensures, c.take_done.ensures.count);
    }

pub loop-k-smaller : goal.loop-k-smaller
loop-k-smaller g c =
    next-fewer c.loop-k.self (g.S.Seats.view c.loop-k.seats).kept.seats c.loop-k.k c.args.self.now (g.S.Seats.view c.args.seats.now).kept.seats 0 c.loop-k.invariant.same (g.S.Seats.view c.take_done.new.self).kept.seats (omega (arith, c.loop-k-test.true, c.count.ensures)) (sym c.take_done.ensures.value ∙ c.in-None.is) c.take_done.ensures.seats

pub returns-clause-tester : goal.returns-clause-tester
returns-clause-tester g c =
    (end-none c.loop-k.self (g.S.Seats.view c.loop-k.seats).kept.seats c.loop-k.k c.args.self.now (g.S.Seats.view c.args.seats.now).kept.seats 0 c.loop-k.invariant.same (omega (arith, c.loop-k-test.false, c.count.ensures))).tester

pub returns-clause-seats : goal.returns-clause-seats
returns-clause-seats g c =
    (end-none c.loop-k.self (g.S.Seats.view c.loop-k.seats).kept.seats c.loop-k.k c.args.self.now (g.S.Seats.view c.args.seats.now).kept.seats 0 c.loop-k.invariant.same (omega (arith, c.loop-k-test.false, c.count.ensures))).places

pub returns-clause-finding : goal.returns-clause-finding
returns-clause-finding g c =
    (end-none c.loop-k.self (g.S.Seats.view c.loop-k.seats).kept.seats c.loop-k.k c.args.self.now (g.S.Seats.view c.args.seats.now).kept.seats 0 c.loop-k.invariant.same (omega (arith, c.loop-k-test.false, c.count.ensures))).finding
