use Rattle.ruby_topology.proofs.Ends.{refused_after}
use Rattle.ruby_topology.proofs.topology.read_topology.Goals as goal

pub returns-clause-err : goal.returns-clause-err
returns-clause-err c =
    rw (← c.symbols-symbols.ensures)
    (refused_after c.symbols-symbols.result.now c.args.bytes.now c.in_ok-read.read.said c.as_slice.result.now c.in_ok-read.read.after c.as_slice.ensures
    c.in_ok-read.ensures.said c.in_ok-read.ensures.after c.said_topology-topology.result c.said_topology-topology.ensures.err)
