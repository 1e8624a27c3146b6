use Rattle.ruby_topology.proofs.One.{never_refused, refusal_one, topology_one}
use Rattle.ruby_topology.proofs.laws.answers_are_one.Goals as goal

pub returns : goal.returns
returns c = record { topology = topology_one; refusal = refusal_one; either = never_refused }
