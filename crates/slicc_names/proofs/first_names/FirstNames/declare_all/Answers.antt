use Rattle.slicc_names.proofs.Repeats.{one_step}
use Rattle.slicc_names.proofs.first_names.FirstNames.declare_all.Goals as goal

pub loop-part-preserved : goal.loop-part-preserved
loop-part-preserved g c =
    one_step g.T.Declares.declares c.args.parts.now c.loop-part.part-index c.part-item.result c.args.self.now c.loop-part.self c.declare_part.new.self c.args.first c.loop-part.first c.in_ok-first.first
    c.loop-part-test.true c.part-item.is c.loop-part.invariant.told c.loop-part.invariant.names c.in_ok-first.ensures.told c.in_ok-first.ensures.names
