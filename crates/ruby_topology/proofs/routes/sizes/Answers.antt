use Rattle.ruby_topology.specs.Prelude.{sizes_of}
use Rattle.ruby_topology.proofs.Steps.{step_map}
use Rattle.ruby_topology.proofs.routes.sizes.Goals as goal

pub loop-machine-preserved : goal.loop-machine-preserved
loop-machine-preserved c =
    step_map (sizes_of c.args.ranges.now c.args.said.now) c.loop-machine.machine _ _ _ c.loop-machine.invariant c.in_ok-push.ensures.ok c.in_ok-of_machine.ensures
