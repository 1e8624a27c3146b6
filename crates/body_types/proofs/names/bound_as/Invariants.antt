use Rattle.std.proofs.Common.{◌≡◌, ◌≤◌, length, map, reverse, take}
use Rattle.slicc_plan.specs.Prelude.{bound_as}
use Rattle.body_types.specs.Prelude.{bound_of}
use Rattle.body_types.proofs.names.bound_as.Given as goal

abbrev pub invariant-loop-left : goal.invariant-loop-left
invariant-loop-left l = record {
  within : l.left ≤ length l.bound;
  same : bound_as l.name (reverse (map bound_of l.bound)) ≡ bound_as l.name (reverse (map bound_of (take l.left l.bound)));
}

abbrev pub decreases-loop-left : goal.decreases-loop-left
decreases-loop-left l = l.left
