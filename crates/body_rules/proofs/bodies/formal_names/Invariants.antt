use Rattle.std.proofs.Common.{◌≡◌, ◌≤◌, drop, length, map, reverse}
use Rattle.slicc_plan.specs.Prelude.{formal_names}
use Rattle.body_types.specs.Prelude.{bound_of}
use Rattle.body_rules.proofs.bodies.formal_names.Given as goal

abbrev pub invariant-loop-left : goal.invariant-loop-left
invariant-loop-left l = record {
  within : l.left ≤ length l.formals;
  bound : reverse (map bound_of l.names.items) ≡ formal_names l.m.scopes.now.trees.now l.m.lines.machine.now (drop l.left l.formals);
}

abbrev pub decreases-loop-left : goal.decreases-loop-left
decreases-loop-left l = l.left
