use Rattle.std.proofs.Common.{arith}
use Rattle.ruby_topology.proofs.Steps.{step_slots}
use Rattle.ruby_topology.proofs.routes.slots.Goals as goal

pub loop-number-preserved : goal.loop-number-preserved
loop-number-preserved c =
    step_slots c.args.said.now c.args.members.now c.loop-number.number _ _ _ _ (omega arith) c.loop-number.invariant c.in_ok-add_slots.ensures
