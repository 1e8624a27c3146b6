use Rattle.std.proofs.Common.{ap, map, ◌∙◌}
use Rattle.slicc_plan.specs.Prelude.{first_after, formal_use, formal_uses, has_no_body, unknown_use, use_of}
use Rattle.declared_types.specs.Prelude.{scope_at}
use Rattle.declaration_rules.specs.Prelude.{unknown_uses}
use Rattle.declaration_rules.proofs.Steps.{none_told, one_before}
use Rattle.declaration_rules.proofs.unknown_types.judge_function.Goals as goal

pub returns-in-Plain : goal.returns-in-Plain
returns-in-Plain c =
    let trees = c.args.scopes.now.trees.now in
    let scope = scope_at trees c.args.number in
    rw c.in-Plain.is
    (one_before (unknown_use trees scope) (use_of c.in-Plain.kind) (formal_uses (has_no_body c.in-Plain.body) c.in-Plain.formals)
    c.args.first c.judge_type-first.result c.judge_formals.result c.judge_type-first.ensures
    (c.judge_formals.ensures
    ∙ ap (λ fs. first_after c.judge_type-first.result (unknown_uses trees scope (map (formal_use c.is_none.result) fs))) c.deref.ensures
    ∙ ap (λ b. first_after c.judge_type-first.result (unknown_uses trees scope (formal_uses b c.in-Plain.formals))) (none_told c.in-Plain.body c.is_none.result c.is_none.ensures)))
