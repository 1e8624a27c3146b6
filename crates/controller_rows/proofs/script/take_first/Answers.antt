use Rattle.std.proofs.Common.{◌+◌, List, length, arith, refl, subst, sym, ◌∙◌}
use Rattle.sequencer.specs.Prelude.{Seat, after_taking}
use Rattle.controller_rows.specs.Prelude.{first_answers}
use Rattle.controller_rows.proofs.Taking.{EndsAt, begins, ends, goes-on}
use Rattle.controller_rows.proofs.script.take_first.Goals as goal

pub loop-k-init : goal.loop-k-init
loop-k-init g c =
    let seats : List Seat = (g.S.Seats.view c.args.seats.now).kept.seats in
    record { on = begins (length seats) seats; count = refl; issued = refl; room = omega arith }

pub take_done-answer-requires : goal.take_done-answer-requires
take_done-answer-requires g c = omega (arith, c.loop-k-test.true, c.count-k-end.ensures, c.loop-k.invariant.count)

pub loop-k-preserved : goal.loop-k-preserved
loop-k-preserved g c =
    let first : List Seat = (g.S.Seats.view c.args.seats.now).kept.seats in
    let end : List Seat = after_taking first (first_answers (length first) 0 first) in
    record {
      on = subst (λ (xs : List Seat). EndsAt (length first) (c.loop-k.k + 1) xs end) (sym c.take_done-answer.ensures.seats)
          (goes-on (length first) c.loop-k.k (g.S.Seats.view c.loop-k.seats).kept.seats end (omega (arith, c.loop-k-test.true, c.count-k-end.ensures)) c.loop-k.invariant.on);
      count = c.take_done-answer.ensures.count ∙ c.loop-k.invariant.count;
      issued = c.take_done-answer.ensures.issued ∙ c.loop-k.invariant.issued;
      room = omega (arith, c.loop-k.invariant.room, c.take_done-answer.ensures.room);
    }

pub returns-clause-seats : goal.returns-clause-seats
returns-clause-seats g c =
    let first : List Seat = (g.S.Seats.view c.args.seats.now).kept.seats in
    ends (length first) c.loop-k.k (g.S.Seats.view c.loop-k.seats).kept.seats (after_taking first (first_answers (length first) 0 first))
    (omega (arith, c.loop-k-test.false, c.count-k-end.ensures)) c.loop-k.invariant.on
