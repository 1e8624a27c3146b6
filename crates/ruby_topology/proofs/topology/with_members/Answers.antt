use Rattle.ruby_topology.proofs.Ends.{few_members}
use Rattle.ruby_topology.proofs.topology.with_members.Goals as goal

pub paths_of-requires-clause-few : goal.paths_of-requires-clause-few
paths_of-requires-clause-few c =
    few_members c.args.symbols.now c.args.said.now c.args.counts.now c.args.members.now c.requires.counts c.requires.members c.requires.room
