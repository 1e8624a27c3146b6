use Rattle.std.proofs.Common.{◌≡◌, take, flat_map}
use Rattle.slicc_plan.specs.Prelude.{machine_names, first_after, unknown_method}
use Rattle.declaration_rules.proofs.prototypes.judge_methods.Given as goal

abbrev pub invariant-loop-m : goal.invariant-loop-m
invariant-loop-m l = l.first ≡ first_after l.initial.first (flat_map (unknown_method (machine_names l.scopes.trees.now)) (take l.m-index l.members))
