use Rattle.std.proofs.Common.{◌≡◌, take, flat_map}
use Rattle.slicc_plan.specs.FieldTypes.{field_of}
use Rattle.slicc_plan.specs.Prelude.{first_after}
use Rattle.declared_types.specs.Prelude.{scope_at}
use Rattle.declaration_rules.proofs.field_rules.first_in_members.Given as goal

abbrev pub invariant-loop-m : goal.invariant-loop-m
invariant-loop-m g l =
    l.first ≡ first_after l.initial.first (flat_map (g.R.FieldRule.broken_at l.scopes.trees.now) (flat_map (field_of (scope_at l.scopes.trees.now l.number)) (take l.m-index l.members)))
