use Rattle.std.proofs.Common.{flat_map, ap, sym, ◌∙◌, []}
use Rattle.std.proofs.lemmas.Result.{IfOk-weaker}
use Rattle.slicc_plan.proofs.Firsts.{first_after-append}
use Rattle.slicc_plan.specs.Prelude.{global_declarations, first_after, scopes_within, globally_repeated_after, repeated}
use Rattle.slicc_names.proofs.Parts.{trees_inside}
use Rattle.slicc_names.proofs.twice.names_twice_declared.Goals as goal

pub returns : goal.returns
returns c =
    IfOk-weaker c.in_each.result _ _
    (λ r told.
    told ∙ ap (λ xs. first_after c.in_ok-first.first (flat_map repeated xs)) (sym (trees_inside c.args.scopes.now.trees.now))
    ∙ ap (λ o. first_after o (flat_map repeated (scopes_within c.args.scopes.now.trees.now)))
    (c.in_ok-first.ensures ∙ ap (λ ds. first_after c.args.first (globally_repeated_after [] ds)) c.declarations.ensures)
    ∙ sym (first_after-append c.args.first (globally_repeated_after [] (global_declarations c.args.scopes.now.trees.now)) (flat_map repeated (scopes_within c.args.scopes.now.trees.now))))
    c.in_each.ensures
