use Rattle.std.proofs.Common.{ap, ◌∙◌, flat_map, ◌++◌}
use Rattle.std.proofs.lemmas.Result.{IfOk-weaker}
use Rattle.slicc_names.specs.Prelude.{one_formal}
use Rattle.slicc_plan.specs.Prelude.{local_of, blocks_in, first_after, repeated}
use Rattle.slicc_names.proofs.Steps.{told_in_body}
use Rattle.slicc_names.proofs.scopes.in_body.Goals as goal

pub returns : goal.returns
returns c =
    IfOk-weaker c.in_statements.result _ _
    (λ r told. told_in_body (flat_map one_formal c.args.formals.now ++ flat_map local_of c.args.b.now.statements) (flat_map blocks_in c.args.b.now.statements) c.args.first c.in_ok-first.first r
    (c.in_ok-first.ensures ∙ ap (λ ss. first_after c.args.first (repeated (flat_map one_formal c.args.formals.now ++ flat_map local_of ss))) c.deref.ensures)
    (told ∙ ap (λ ss. first_after c.in_ok-first.first (flat_map repeated (flat_map blocks_in ss))) c.deref-2.ensures))
    c.in_statements.ensures
