use Rattle.std.proofs.Common.{◌∙◌, ap, is_some}
use Rattle.ruby_topology.specs.Prelude.{count_of}
use Rattle.ruby_topology.proofs.said.is_said.Goals as goal

pub returns-in-Machine : goal.returns-in-Machine
returns-in-Machine c =
    rw c.in-Machine.is (c.is_some.ensures ∙ ap is_some (c.count_of.ensures ∙ ap (count_of c.args.said.now) c.from.ensures))
