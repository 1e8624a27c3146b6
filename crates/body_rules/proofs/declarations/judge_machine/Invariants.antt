use Rattle.std.proofs.Common.{◌≡◌, flat_map, take}
use Rattle.slicc_plan.specs.Prelude.{broken_in_declaration, first_after}
use Rattle.declared_types.specs.Prelude.{declarations_of}
use Rattle.body_rules.proofs.declarations.judge_machine.Given as goal

abbrev pub invariant-loop-d : goal.invariant-loop-d
invariant-loop-d l =
    l.found ≡ first_after l.fn.first (flat_map (broken_in_declaration l.m.scopes.now.trees.now l.m.lines.machine.now) (declarations_of (take l.d-index l.d-items)))
