use Rattle.std.proofs.Common.{ap, ◌∙◌}
use Rattle.slicc_names.specs.Prelude.{found_after}
use Rattle.slicc_names.proofs.Counts.{found_on}
use Rattle.slicc_names.proofs.count.count_each.Goals as goal

pub loop-part-preserved : goal.loop-part-preserved
loop-part-preserved g c =
    found_on (g.T.Counted.places c.args.kind) c.args.parts.now c.loop-part.part-index c.part-item.result c.args.found c.loop-part.found c.count-found.result
    c.loop-part-test.true c.part-item.is c.loop-part.invariant (c.count-found.ensures ∙ ap (found_after c.loop-part.found) c.place.ensures)
