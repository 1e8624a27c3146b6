use Rattle.slicc_names.proofs.Steps.{told_in_taken}
use Rattle.slicc_names.proofs.scopes.in_each.Goals as goal

pub loop-part-preserved : goal.loop-part-preserved
loop-part-preserved g c =
    told_in_taken g.T.Scoped.scopes c.args.parts.now c.loop-part.part-index c.part-item.result c.args.first c.loop-part.first c.in_ok-first.first
    c.loop-part-test.true c.part-item.is c.loop-part.invariant c.in_ok-first.ensures
