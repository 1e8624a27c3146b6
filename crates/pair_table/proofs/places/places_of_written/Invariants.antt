use Rattle.std.proofs.Common.{◌≡◌, ◌+◌, ◌*◌, flat_map, map, take}
use Rattle.pair_table.proofs.places.places_of_written.Given as goal

abbrev pub invariant-loop-state : goal.invariant-loop-state
invariant-loop-state l = l.places ≡ flat_map (λ state. map (λ event. state * l.events + event) l.w.events) (take l.state-index l.states)
