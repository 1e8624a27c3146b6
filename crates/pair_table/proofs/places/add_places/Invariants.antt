use Rattle.std.proofs.Common.{◌≡◌, ◌+◌, ◌++◌, map, take}
use Rattle.pair_table.proofs.places.add_places.Given as goal

abbrev pub invariant-loop-event : goal.invariant-loop-event
invariant-loop-event l = l.places ≡ l.initial.places ++ map (λ event. l.start + event) (take l.event-index l.events)
