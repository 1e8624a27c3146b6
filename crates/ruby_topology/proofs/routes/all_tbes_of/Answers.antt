use Rattle.std.proofs.Common.{arith}
use Rattle.ruby_topology.specs.declared.forms.Statement.TheVariants.{Machine}
use Rattle.ruby_topology.specs.Prelude.{tbes_of}
use Rattle.ruby_topology.proofs.Steps.{step_filter_map}
use Rattle.ruby_topology.proofs.routes.all_tbes_of.Goals as goal

pub loop-s-preserved : goal.loop-s-preserved
loop-s-preserved c =
    step_filter_map (tbes_of c.args.machine) c.args.said.now c.loop-s.s-index (Machine 0 0) _ _ c.tbes_of.result (omega arith) c.loop-s.invariant c.in_ok-push_some.ensures
    c.tbes_of.ensures
