use Rattle.std.proofs.Common.{◌≡◌, map, take}
use Rattle.ruby_topology.specs.declared.forms.Member.{Member}
use Rattle.ruby_topology.specs.Prelude.{receiving_of}
use Rattle.ruby_topology.proofs.routes.receiving.Given as goal

abbrev pub invariant-loop-c : goal.invariant-loop-c
invariant-loop-c l = l.all ≡ map (λ (c : Member). receiving_of l.symbols c.machine) (take l.c-index l.members)
