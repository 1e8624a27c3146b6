use Rattle.ruby_topology.specs.Prelude.{receiving_at}
use Rattle.ruby_topology.proofs.Steps.{step_map}
use Rattle.ruby_topology.proofs.routes.receiving_of.Goals as goal

pub loop-network-preserved : goal.loop-network-preserved
loop-network-preserved c =
    step_map (receiving_at c.args.symbols.now c.args.machine) c.loop-network.network _ _ _ c.loop-network.invariant c.in_ok-push.ensures.ok c.receiving_at.ensures
