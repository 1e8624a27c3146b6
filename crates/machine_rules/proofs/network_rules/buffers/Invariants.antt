use Rattle.std.proofs.Common.{◌≡◌, flat_map, map, take}
use Rattle.slicc_plan.specs.Buffers.{listed}
use Rattle.slicc_plan.specs.Prelude.{buffer_in, Declaration}
use Rattle.declared_types.specs.Prelude.{declarations_of}
use Rattle.machine_table.specs.Prelude.{buffer_seen}
use Rattle.machine_rules.proofs.network_rules.buffers.Given as goal

abbrev pub invariant-loop-d : goal.invariant-loop-d
invariant-loop-d l =
    map buffer_seen l.list ≡ flat_map (λ (d : Declaration). listed (buffer_in l.m.scopes.now.trees.now l.m.machine.now d)) (declarations_of (take l.d-index l.d-items))
