use Rattle.std.proofs.Common.{sym, ap, ◌∙◌}
use Rattle.std.proofs.lemmas.List.Folds.{flat_map-map}
use Rattle.declared_types.specs.Prelude.{declaration_of}
use Rattle.slicc_plan.specs.Prelude.{beyond_in_declaration, first_after}
use Rattle.slicc_names.proofs.Steps.{told_all, told_taken}
use Rattle.slicc_names.proofs.limits.in_declarations.Goals as goal

pub loop-d-preserved : goal.loop-d-preserved
loop-d-preserved c =
    told_taken (λ x. beyond_in_declaration (declaration_of x)) c.args.declarations.now c.loop-d.d-index c.d-item.result c.args.first c.loop-d.first c.in_declaration-first.result
    c.loop-d-test.true c.d-item.is c.loop-d.invariant c.in_declaration-first.ensures

pub returns : goal.returns
returns c =
    told_all (λ x. beyond_in_declaration (declaration_of x)) c.args.declarations.now c.loop-d.d-index c.args.first c.loop-d.first c.loop-d-test.false c.loop-d.invariant
    ∙ ap (first_after c.args.first) (sym (flat_map-map beyond_in_declaration declaration_of c.args.declarations.now))
