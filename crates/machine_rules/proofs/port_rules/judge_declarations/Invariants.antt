use Rattle.std.proofs.Common.{◌≡◌, flat_map, take}
use Rattle.slicc_plan.specs.Buffers.{port_in}
use Rattle.slicc_plan.specs.Prelude.{first_after}
use Rattle.declared_types.specs.Prelude.{declarations_of}
use Rattle.machine_rules.specs.Prelude.{wrong_port}
use Rattle.machine_rules.proofs.port_rules.judge_declarations.Given as goal

abbrev pub invariant-loop-d : goal.invariant-loop-d
invariant-loop-d l =
    l.found ≡ first_after l.fn.first (flat_map (λ d. flat_map (wrong_port l.m.scopes.now.trees.now l.m.machine.now) (port_in l.m.scopes.now.trees.now l.m.number l.m.machine.now d)) (declarations_of (take l.d-index l.declarations)))
