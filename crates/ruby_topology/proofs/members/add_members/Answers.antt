use Rattle.ruby_topology.proofs.Steps.{step_members}
use Rattle.ruby_topology.proofs.members.add_members.Goals as goal

pub loop-index-preserved : goal.loop-index-preserved
loop-index-preserved c =
    step_members c.args.machine c.loop-index.index c.args.members.now _ _ c.loop-index.invariant c.in_ok-push.ensures.ok
