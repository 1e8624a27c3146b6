use Rattle.std.proofs.Common.{flat_map, sym, ap, ◌∙◌}
use Rattle.declared_types.specs.Prelude.{declaration_of}
use Rattle.slicc_names.specs.Prelude.{decl_places, found_after, if_counted, inside, parameter_places}
use Rattle.slicc_names.proofs.Counts.{found_both}
use Rattle.slicc_names.proofs.MachinePlaces.{machine_places}
use Rattle.slicc_names.proofs.count.count_inside.Goals as goal

pub returns-in-Machine : goal.returns-in-Machine
returns-in-Machine c =
    let m = c.in-Machine.m.now in
    found_both (flat_map (parameter_places c.args.kind) m.parameters) (flat_map (decl_places c.args.kind) m.declarations) c.args.found c.count_each-found.result c.count_each.result
    (c.count_each-found.ensures ∙ ap (λ ps. found_after c.args.found (flat_map (parameter_places c.args.kind) ps)) c.deref.ensures)
    (c.count_each.ensures ∙ ap (λ ds. found_after c.count_each-found.result (flat_map (decl_places c.args.kind) ds)) c.deref-in-Machine.ensures)
    ∙ ap (found_after c.args.found) (sym (machine_places c.args.kind m))
    ∙ ap (λ d. found_after c.args.found (flat_map (if_counted c.args.kind) (inside (declaration_of d)))) (sym c.in-Machine.is)
