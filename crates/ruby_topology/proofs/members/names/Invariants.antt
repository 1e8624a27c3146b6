use Rattle.std.proofs.Common.{◌≡◌, map, take}
use Rattle.ruby_topology.specs.Prelude.{name_of}
use Rattle.ruby_topology.proofs.members.names.Given as goal

abbrev pub invariant-loop-c : goal.invariant-loop-c
invariant-loop-c l = l.names ≡ map (name_of l.symbols) (take l.c-index l.members)
