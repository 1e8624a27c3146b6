use Rattle.std.proofs.Common.{ap, ◌∙◌, flat_map}
use Rattle.slicc_plan.specs.Prelude.{wide_scopes, first_after, bad_field_defaults, bad_values_in}
use Rattle.declaration_rules.proofs.Passes.{defaults_by_each}
use Rattle.declaration_rules.proofs.Steps.{one_list_before}
use Rattle.declaration_rules.proofs.rule.judge_values.Goals as goal

pub returns : goal.returns
returns c =
    let trees = c.args.scopes.now.trees.now in
    one_list_before c.args.first c.first_in_scopes-first.result c.first_in_scopes.result (flat_map (bad_values_in trees) (wide_scopes trees)) (bad_field_defaults trees)
    c.first_in_scopes-first.ensures (c.first_in_scopes.ensures ∙ ap (first_after c.first_in_scopes-first.result) (defaults_by_each trees))
