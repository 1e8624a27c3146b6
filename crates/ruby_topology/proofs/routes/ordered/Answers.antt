use Rattle.ruby_topology.specs.Prelude.{is_ordered_on}
use Rattle.ruby_topology.proofs.Steps.{step_map}
use Rattle.ruby_topology.proofs.routes.ordered.Goals as goal

pub loop-network-preserved : goal.loop-network-preserved
loop-network-preserved c =
    step_map (is_ordered_on c.args.symbols.now c.args.said.now) c.loop-network.network _ _ _ c.loop-network.invariant c.in_ok-push.ensures.ok c.keeps_order.ensures
