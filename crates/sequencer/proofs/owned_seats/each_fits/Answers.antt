use Rattle.std.proofs.lemmas.List.Elements.{All-from_all_within, All-map, AllWithin-upto}
use Rattle.sequencer.specs.declared.owned_seat.OwnedSeat.{OwnedSeat}
use Rattle.sequencer.specs.Prelude.{seat_of, FitsSeat}
use Rattle.sequencer.proofs.owned_seats.each_fits.Goals as goal

pub returns : goal.returns
returns c =
    All-map FitsSeat seat_of c.args.seats.now
    (All-from_all_within (λ (s : OwnedSeat). FitsSeat (seat_of s)) c.args.seats.now
    (AllWithin-upto (λ (s : OwnedSeat). FitsSeat (seat_of s)) c.args.seats.now 0 c.loop-seat.seat-index _ c.loop-seat-test.false c.loop-seat.invariant))
