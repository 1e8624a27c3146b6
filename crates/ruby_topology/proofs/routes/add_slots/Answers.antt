use Rattle.std.proofs.Common.{arith}
use Rattle.ruby_topology.specs.declared.forms.Statement.TheVariants.{Machine}
use Rattle.ruby_topology.specs.Prelude.{slot_in}
use Rattle.ruby_topology.proofs.Steps.{step_filter_map_onto}
use Rattle.ruby_topology.proofs.routes.add_slots.Goals as goal

pub loop-s-preserved : goal.loop-s-preserved
loop-s-preserved c =
    step_filter_map_onto (slot_in c.args.controller c.args.machine) c.args.said.now c.loop-s.s-index (Machine 0 0) c.args.all.now _ _ c.slot_in.result (omega arith) c.loop-s.invariant c.in_ok-push_some.ensures
    c.slot_in.ensures
