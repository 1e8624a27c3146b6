use Rattle.std.proofs.Common.{ap, ◌∙◌}
use Rattle.slicc_names.specs.Prelude.{field_places, found_after}
use Rattle.slicc_names.proofs.Counts.{found_on}
use Rattle.slicc_names.proofs.count.count_fields.Goals as goal

pub loop-m-preserved : goal.loop-m-preserved
loop-m-preserved c =
    found_on field_places c.args.members.now c.loop-m.m-index c.m-item.result c.args.found c.loop-m.found c.count-found.result
    c.loop-m-test.true c.m-item.is c.loop-m.invariant (c.count-found.ensures ∙ ap (found_after c.loop-m.found) c.field_place.ensures)
