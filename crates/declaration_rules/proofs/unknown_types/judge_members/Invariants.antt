use Rattle.std.proofs.Common.{◌≡◌, take, flat_map}
use Rattle.slicc_plan.specs.Prelude.{first_after, member_uses}
use Rattle.declared_types.specs.Prelude.{scope_at}
use Rattle.declaration_rules.specs.Prelude.{unknown_uses}
use Rattle.declaration_rules.proofs.unknown_types.judge_members.Given as goal

abbrev pub invariant-loop-m : goal.invariant-loop-m
invariant-loop-m l = l.first ≡ first_after l.initial.first (unknown_uses l.scopes.trees.now (scope_at l.scopes.trees.now l.number) (flat_map member_uses (take l.m-index l.members)))
