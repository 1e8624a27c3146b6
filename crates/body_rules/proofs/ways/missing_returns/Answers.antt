use Rattle.std.proofs.Common.{ap, ◌∙◌}
use Rattle.slicc_plan.specs.Prelude.{first_after}
use Rattle.body_rules.proofs.WayLists.{ways_by_each}
use Rattle.body_rules.proofs.ways.missing_returns.Goals as goal

pub returns : goal.returns
returns c = c.first_in_scopes.ensures ∙ ap (first_after c.args.first) (ways_by_each c.args.scopes.now.trees.now)
