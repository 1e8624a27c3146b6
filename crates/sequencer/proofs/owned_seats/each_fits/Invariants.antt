use Rattle.std.specs.List.{AllWithin}
use Rattle.sequencer.specs.Prelude.{seat_of, FitsSeat}
use Rattle.sequencer.proofs.owned_seats.each_fits.Given as goal

abbrev pub invariant-loop-seat : goal.invariant-loop-seat
invariant-loop-seat l = AllWithin (λ s. FitsSeat (seat_of s)) l.seats 0 l.seat-index
