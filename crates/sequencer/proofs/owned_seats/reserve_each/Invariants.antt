use Rattle.std.proofs.Common.{◌≡◌, ℕ}
use Rattle.std.specs.List.{All, AllWithin}
use Rattle.sequencer.specs.Prelude.{HasRoom, seats_of}
use Rattle.sequencer.proofs.owned_seats.reserve_each.Given as goal

abbrev pub invariant-loop-seat : goal.invariant-loop-seat
invariant-loop-seat l = record {
  same : seats_of l.seats ≡ seats_of l.fn.seats;
  ok : AllWithin (HasRoom l.requests) l.seats 0 l.seat-index;
  no_less : (n : ℕ) → All (HasRoom n) l.fn.seats → All (HasRoom n) l.seats;
}
