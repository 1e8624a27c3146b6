use Rattle.std.proofs.Common.{◌≡◌, take, map}
use Rattle.slicc_plan.specs.Prelude.{first_after, formal_use}
use Rattle.declared_types.specs.Prelude.{scope_at}
use Rattle.declaration_rules.specs.Prelude.{unknown_uses}
use Rattle.declaration_rules.proofs.unknown_types.judge_formals.Given as goal

abbrev pub invariant-loop-f : goal.invariant-loop-f
invariant-loop-f l =
    l.first ≡ first_after l.initial.first (unknown_uses l.scopes.trees.now (scope_at l.scopes.trees.now l.number) (map (formal_use l.is_of_prototype) (take l.f-index l.formals)))
