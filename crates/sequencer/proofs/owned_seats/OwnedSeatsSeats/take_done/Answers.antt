use Rattle.std.proofs.Common.{ap, arith}
use Rattle.ruby_value.specs.Prelude.{without_first_answer}
use Rattle.sequencer.specs.Prelude.{Seat}
use Rattle.sequencer.proofs.Owned.{seat-at, seat-changed, still-owned, within-seats}
use Rattle.sequencer.proofs.owned_seats.OwnedSeatsSeats.take_done.Goals as goal

pub invariant_of-self : goal.invariant_of-self
invariant_of-self c =
    still-owned c.self.inside.seats.items c.args.k c.index_mut-seat.result.now (within-seats _ _ (rw (← c.self.view_is) at c.requires)) c.index_mut-seat.ensures.value
    c.take_done.new.self _ _ c.self.inside.room _ _ c.self.inside.room
    c.self.invariant (ap (λ (s : Seat). s.controller) c.take_done.ensures.seat) (omega arith) (c.take_done.ensures.room c.self.inside.room) c.self.invariant.places_for_issued

pub returns-clause-value : goal.returns-clause-value
returns-clause-value c =
    let at = seat-at c.self.inside.seats.items c.args.k c.index_mut-seat.result.now (within-seats _ _ (rw (← c.self.view_is) at c.requires)) c.index_mut-seat.ensures.value in
    rw (← c.self.view_is, at) c.take_done.ensures.value

pub returns-clause-seats : goal.returns-clause-seats
returns-clause-seats c =
    rw (← c.self.view_is)
    (seat-changed c.self.inside.seats.items c.args.k c.index_mut-seat.result.now (within-seats _ _ (rw (← c.self.view_is) at c.requires)) c.index_mut-seat.ensures.value
    without_first_answer c.take_done.new.self c.take_done.ensures.seat)
