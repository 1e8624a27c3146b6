use Rattle.std.proofs.Common.{arith}
use Rattle.ruby_topology.specs.declared.forms.Statement.TheVariants.{Machine}
use Rattle.ruby_topology.specs.Prelude.{link_in}
use Rattle.ruby_topology.proofs.Steps.{step_filter_map}
use Rattle.ruby_topology.proofs.routes.links.Goals as goal

pub loop-s-preserved : goal.loop-s-preserved
loop-s-preserved c =
    step_filter_map (link_in c.args.members.now) c.args.said.now c.loop-s.s-index (Machine 0 0) _ _ c.link_in.result (omega arith) c.loop-s.invariant c.in_ok-push_some.ensures
    c.link_in.ensures
