use Rattle.std.proofs.Common.{◌≡◌, replicate}
use Rattle.action_code.specs.Ways.{no_arrival}
use Rattle.action_code.proofs.arrivals.no_arrivals.Given as goal

abbrev pub invariant-loop-i : goal.invariant-loop-i
invariant-loop-i l = l.places.items ≡ replicate l._i no_arrival
