use Rattle.std.proofs.Common.{◌≡◌, map, take}
use Rattle.slicc_plan.specs.Prelude.{symbols_of}
use Rattle.protocol_meaning.specs.Prelude.{seat_setup, ranges_of}
use Rattle.world_state.specs.Prelude.{setups_in}
use Rattle.ruby_world.proofs.opening.seats_at.Given as goal

abbrev pub invariant-loop-seat : goal.invariant-loop-seat
invariant-loop-seat l = setups_in l.seats.items ≡ map (seat_setup (symbols_of l.plan) (ranges_of l.topology)) (take l.seat-index l.topology.seats)
