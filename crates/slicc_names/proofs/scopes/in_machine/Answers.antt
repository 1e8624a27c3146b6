use Rattle.std.proofs.Common.{◌++◌, flat_map, ap, sym, ◌∙◌}
use Rattle.std.proofs.lemmas.Result.{IfOk-weaker}
use Rattle.slicc_names.specs.Prelude.{one_parameter, decl_scopes}
use Rattle.slicc_plan.specs.Prelude.{machine_declarations, named_declarations, first_after, inner_scopes, repeated}
use Rattle.slicc_names.proofs.Parts.{each_parameter, machine_inside}
use Rattle.slicc_names.proofs.Steps.{told_in_body}
use Rattle.slicc_names.proofs.scopes.in_machine.Goals as goal

pub returns : goal.returns
returns c =
    IfOk-weaker c.in_each.result _ _
    (λ r told.
    told_in_body (machine_declarations c.args.m.now) (flat_map inner_scopes (machine_declarations c.args.m.now)) c.args.first c.in_ok-first.first r
    (c.in_ok-first.ensures
    ∙ ap (λ ps. first_after c.args.first (repeated (flat_map one_parameter ps ++ flat_map named_declarations c.deref-2.result.now))) c.deref.ensures
    ∙ ap (λ ds. first_after c.args.first (repeated (flat_map one_parameter c.args.m.now.parameters ++ flat_map named_declarations ds))) c.deref-2.ensures
    ∙ ap (λ ps. first_after c.args.first (repeated (ps ++ flat_map named_declarations c.args.m.now.declarations))) (each_parameter c.args.m.now.parameters))
    (told ∙ ap (λ ds. first_after c.in_ok-first.first (flat_map repeated (flat_map decl_scopes ds))) c.deref-3.ensures
    ∙ ap (λ xs. first_after c.in_ok-first.first (flat_map repeated xs)) (sym (machine_inside c.args.m.now))))
    c.in_each.ensures
