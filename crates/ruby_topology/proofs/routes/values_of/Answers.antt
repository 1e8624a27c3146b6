use Rattle.std.proofs.Common.{arith}
use Rattle.ruby_topology.specs.declared.forms.Statement.TheVariants.{Machine}
use Rattle.ruby_topology.specs.Topology.{value_of}
use Rattle.ruby_topology.proofs.Steps.{step_filter_map}
use Rattle.ruby_topology.proofs.routes.values_of.Goals as goal

pub loop-s-preserved : goal.loop-s-preserved
loop-s-preserved c =
    step_filter_map (value_of c.args.machine) c.args.said.now c.loop-s.s-index (Machine 0 0) _ _ c.value_of.result (omega arith) c.loop-s.invariant c.in_ok-push_some.ensures
    c.value_of.ensures
