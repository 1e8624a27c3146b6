use Rattle.std.proofs.Common.{◌<◌, ◌∙◌, length, ap, sym, arith}
use Rattle.std.proofs.lemmas.List.Elements.{All-get_or, All-set, AllWithin-more_set}
use Rattle.sequencer.specs.Prelude.{HasRoom, seat_of}
use Rattle.sequencer.proofs.Owned.{seat-unchanged}
use Rattle.sequencer.proofs.owned_seats.reserve_each.Goals as goal

pub loop-seat-preserved : goal.loop-seat-preserved
loop-seat-preserved c =
    let lt : c.loop-seat.seat-index < length c.loop-seat.seats = omega arith in
    record {
      same = seat-unchanged c.loop-seat.seats c.loop-seat.seat-index c.seat-item.result lt c.seat-item.is c.reserve.new.self (c.reserve.ensures.same ∙ ap seat_of (sym c.seat-item.is)) ∙ c.loop-seat.invariant.same;
      ok = AllWithin-more_set c.loop-seat.seats c.loop-seat.seat-index c.reserve.new.self lt (HasRoom c.args.requests) c.loop-seat.invariant.ok c.in_ok-reserve.ensures.ok;
      no_less = λ n all.
          All-set (HasRoom n) c.loop-seat.seats c.loop-seat.seat-index c.reserve.new.self
          (c.reserve.ensures.no_less n (All-get_or (HasRoom n) c.loop-seat.seats c.loop-seat.seat-index c.seat-item.result lt (c.loop-seat.invariant.no_less n all)))
          (c.loop-seat.invariant.no_less n all);
    }

pub returns-in_err-reserve-clause-same : goal.returns-in_err-reserve-clause-same
returns-in_err-reserve-clause-same c =
    let lt : c.loop-seat.seat-index < length c.loop-seat.seats = omega arith in
    seat-unchanged c.loop-seat.seats c.loop-seat.seat-index c.seat-item.result lt c.seat-item.is c.reserve.new.self (c.reserve.ensures.same ∙ ap seat_of (sym c.seat-item.is)) ∙ c.loop-seat.invariant.same
