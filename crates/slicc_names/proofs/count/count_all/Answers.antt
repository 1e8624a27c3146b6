use Rattle.std.proofs.Common.{flat_map, sym, ap, ◌∙◌}
use Rattle.std.proofs.lemmas.List.Folds.{flat_map-map}
use Rattle.declared_types.specs.Prelude.{declaration_of}
use Rattle.slicc_names.specs.Prelude.{found_after, if_counted, inside, with_its_own_places}
use Rattle.slicc_names.proofs.Counts.{found_both, found_end, found_on}
use Rattle.slicc_names.proofs.count.count_all.Goals as goal

pub loop-d-preserved : goal.loop-d-preserved
loop-d-preserved c =
    let d = declaration_of c.d-item.result in
    found_on (λ x. with_its_own_places c.args.kind (declaration_of x)) c.args.declarations.now c.loop-d.d-index c.d-item.result c.args.found c.loop-d.found c.count_inside-found.result
    c.loop-d-test.true c.d-item.is c.loop-d.invariant
    (found_both (if_counted c.args.kind d) (flat_map (if_counted c.args.kind) (inside d)) c.loop-d.found c.count.result c.count_inside-found.result
    (c.count.ensures ∙ ap (found_after c.loop-d.found) c.place.ensures) c.count_inside-found.ensures)

pub returns : goal.returns
returns c =
    found_end (λ x. with_its_own_places c.args.kind (declaration_of x)) c.args.declarations.now c.loop-d.d-index c.args.found c.loop-d.found c.loop-d-test.false c.loop-d.invariant
    ∙ ap (found_after c.args.found) (sym (flat_map-map (with_its_own_places c.args.kind) declaration_of c.args.declarations.now))
