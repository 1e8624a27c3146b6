use Rattle.std.proofs.Common.{ap, ◌∙◌}
use Rattle.slicc_plan.specs.Prelude.{first_after}
use Rattle.declaration_rules.proofs.Passes.{refused_by_each}
use Rattle.declaration_rules.proofs.rule.judge_field_types.Goals as goal

pub returns : goal.returns
returns c = c.first_in_scopes.ensures ∙ ap (first_after c.args.first) (refused_by_each c.args.scopes.now.trees.now)
