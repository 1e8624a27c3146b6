use Rattle.std.proofs.Common.{sym, ap, ◌∙◌}
use Rattle.slicc_plan.specs.Prelude.{body_locals, first_after}
use Rattle.slicc_names.specs.Prelude.{told_found}
use Rattle.slicc_names.proofs.Counts.{beyond_found}
use Rattle.slicc_names.proofs.limits.in_body.Goals as goal

pub returns : goal.returns
returns c =
    c.limit_at.ensures ∙ ap (λ f. first_after c.args.first (told_found f)) c.count_locals.ensures
    ∙ ap (first_after c.args.first) (sym (beyond_found 64 (body_locals c.args.b.now)))
