use Rattle.std.proofs.Common.{flat_map, sym, ap, ◌∙◌}
use Rattle.std.proofs.lemmas.List.Folds.{flat_map-map}
use Rattle.declared_types.specs.Prelude.{declaration_of}
use Rattle.slicc_plan.specs.Prelude.{beyond_in_body, bodies_in, first_after}
use Rattle.slicc_names.proofs.Parts.{flat_flat}
use Rattle.slicc_names.proofs.Steps.{told_all, told_taken}
use Rattle.slicc_names.proofs.limits.in_bodies.Goals as goal

pub loop-d-preserved : goal.loop-d-preserved
loop-d-preserved c =
    told_taken (λ x. flat_map beyond_in_body (bodies_in (declaration_of x))) c.args.declarations.now c.loop-d.d-index c.d-item.result c.args.first c.loop-d.first c.in_own_body-first.result
    c.loop-d-test.true c.d-item.is c.loop-d.invariant c.in_own_body-first.ensures

pub returns : goal.returns
returns c =
    told_all (λ x. flat_map beyond_in_body (bodies_in (declaration_of x))) c.args.declarations.now c.loop-d.d-index c.args.first c.loop-d.first c.loop-d-test.false c.loop-d.invariant
    ∙ ap (first_after c.args.first) (sym (flat_flat beyond_in_body (λ x. bodies_in (declaration_of x)) c.args.declarations.now))
    ∙ ap (λ bs. first_after c.args.first (flat_map beyond_in_body bs)) (sym (flat_map-map bodies_in declaration_of c.args.declarations.now))
