use Rattle.std.proofs.Common.{◌≡◌, drop}
use Rattle.std.specs.List.{slice_get}
use Rattle.stall_map.specs.Prelude.{waiting_of}
use Rattle.stall_map.proofs.slots.first_from.Given as goal

abbrev pub invariant-loop-i : goal.invariant-loop-i
invariant-loop-i l = slice_get (waiting_of (drop l.i l.slots.items)) 0 ≡ slice_get (waiting_of (drop l.from l.slots.items)) 0
