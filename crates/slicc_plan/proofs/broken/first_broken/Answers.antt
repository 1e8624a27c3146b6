use Rattle.slicc_plan.proofs.Firsts.{first_of_taken}
use Rattle.slicc_plan.proofs.broken.first_broken.Goals as goal

pub loop-b-preserved : goal.loop-b-preserved
loop-b-preserved c = first_of_taken c.args.broken.now c.loop-b.b-index c.loop-b.first _ c.earlier.result c.loop-b-test.true c.earlier.ensures c.loop-b.invariant
