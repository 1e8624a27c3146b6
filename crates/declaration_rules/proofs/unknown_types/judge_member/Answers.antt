use Rattle.std.proofs.Common.{true, ap, map, ◌∙◌}
use Rattle.slicc_plan.specs.Prelude.{first_after, formal_use, formal_uses, unknown_use, use_of}
use Rattle.declared_types.specs.Prelude.{scope_at}
use Rattle.declaration_rules.specs.Prelude.{unknown_uses}
use Rattle.declaration_rules.proofs.Steps.{one_before}
use Rattle.declaration_rules.proofs.unknown_types.judge_member.Goals as goal

pub returns-in-Method : goal.returns-in-Method
returns-in-Method c =
    let trees = c.args.scopes.now.trees.now in
    let scope = scope_at trees c.args.number in
    rw c.in-Method.is
    (one_before (unknown_use trees scope) (use_of c.in-Method.kind) (formal_uses true c.in-Method.formals)
    c.args.first c.judge_type-first.result c.judge_formals.result c.judge_type-first.ensures
    (c.judge_formals.ensures ∙ ap (λ fs. first_after c.judge_type-first.result (unknown_uses trees scope (map (formal_use true) fs))) c.deref.ensures))
