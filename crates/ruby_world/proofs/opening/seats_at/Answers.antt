use Rattle.std.proofs.Common.{◌<◌, All, IsSome, List, arith, false, length, subst, sym}
use Rattle.std.proofs.lemmas.List.Elements.{All-get_or}
use Rattle.protocol_runs.specs.Prelude.{machine_of}
use Rattle.ruby_topology.specs.declared.topology.Seat.{Seat}
use Rattle.protocol_meaning.specs.Prelude.{ranges_of}
use Rattle.ruby_world.proofs.Openings.{seats-there}
use Rattle.ruby_world.proofs.opening.seats_at.Goals as goal

pub seat_at-requires-clause-there : goal.seat_at-requires-clause-there
seat_at-requires-clause-there c =
    let ranges = ranges_of c.args.topology.now in
    let seats = c.as_slice-seat-items.result.now in
    let all : All (λ (s : Seat). IsSome (machine_of ranges s.controller)) seats =
    subst (λ (xs : List Seat). All (λ (s : Seat). IsSome (machine_of ranges s.controller)) xs) (sym c.as_slice-seat-items.ensures)
    (seats-there c.args.plan.now c.args.topology.now c.requires) in
    let lt : c.loop-seat.seat-index < length seats = omega arith in
    All-get_or (λ (s : Seat). IsSome (machine_of ranges s.controller)) seats c.loop-seat.seat-index (record { controller = 0; sequencer = false }) lt all
