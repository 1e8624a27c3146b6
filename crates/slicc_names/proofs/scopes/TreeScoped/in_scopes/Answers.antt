use Rattle.std.proofs.Common.{flat_map, ap, ◌∙◌}
use Rattle.std.proofs.lemmas.Result.{IfOk-weaker}
use Rattle.slicc_plan.specs.Prelude.{first_after, repeated}
use Rattle.slicc_names.specs.Prelude.{item_scopes}
use Rattle.slicc_names.proofs.scopes.TreeScoped.in_scopes.Goals as goal

pub returns : goal.returns
returns c =
    IfOk-weaker c.in_each.result _ _
    (λ r told. told ∙ ap (λ is. first_after c.args.first (flat_map repeated (flat_map item_scopes is))) c.deref.ensures) c.in_each.ensures
