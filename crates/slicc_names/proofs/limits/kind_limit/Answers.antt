use Rattle.std.proofs.Common.{sym, ap, ◌∙◌}
use Rattle.std.proofs.lemmas.List.Folds.{flat_map-map}
use Rattle.declared_types.specs.Prelude.{declaration_of, declarations_of}
use Rattle.slicc_plan.specs.Prelude.{first_after}
use Rattle.slicc_names.specs.Prelude.{found_after, if_counted, is_of_kind, told_found}
use Rattle.slicc_names.specs.declared.count.Found.TheVariants.{Left}
use Rattle.slicc_names.proofs.Counts.{beyond_passing}
use Rattle.slicc_names.proofs.limits.kind_limit.Goals as goal

pub returns : goal.returns
returns c =
    c.limit_at.ensures ∙ ap (λ f. first_after c.args.first (told_found f)) c.count_each.ensures
    ∙ ap (λ ps. first_after c.args.first (told_found (found_after (Left c.args.limit) ps))) (sym (flat_map-map (if_counted c.args.kind) declaration_of c.args.declarations.now))
    ∙ ap (first_after c.args.first) (sym (beyond_passing (is_of_kind c.args.kind) c.args.limit (declarations_of c.args.declarations.now)))
