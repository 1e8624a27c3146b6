use Rattle.ruby_topology.specs.Prelude.{path_by}
use Rattle.ruby_topology.proofs.Steps.{step_map}
use Rattle.ruby_topology.proofs.paths.computed_row.Goals as goal

pub loop-to-preserved : goal.loop-to-preserved
loop-to-preserved c =
    step_map (path_by c.args.network c.args.from) c.loop-to.to _ _ _ c.loop-to.invariant c.in_ok-push.ensures.ok c.path_by.ensures
