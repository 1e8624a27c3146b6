use Rattle.std.proofs.lemmas.Result.{IfOk-weaker}
use Rattle.slicc_plan.specs.Prelude.{symbols_of}
use Rattle.ruby_topology.specs.Prelude.{IsTopologyOf}
use Rattle.protocol_meaning.specs.Prelude.{FitsPlan}
use Rattle.parts.proofs.worlds.run.topology_of.Goals as goal

pub returns : goal.returns
returns c =
    IfOk-weaker c.read_topology.result (IsTopologyOf (symbols_of c.args.plan.now) c.args.bytes.now) (FitsPlan c.args.plan.now)
    (λ t is. c.topologies_fit.ensures c.args.plan.now c.args.bytes.now t c.trees-trees.ensures.accepted is) c.read_topology.ensures.ok
