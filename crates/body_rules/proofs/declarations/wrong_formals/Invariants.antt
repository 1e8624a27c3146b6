use Rattle.std.proofs.Common.{◌≡◌, flat_map, take}
use Rattle.slicc_plan.specs.Prelude.{wrong_formal, first_of}
use Rattle.body_rules.proofs.declarations.wrong_formals.Given as goal

abbrev pub invariant-loop-f : goal.invariant-loop-f
invariant-loop-f l =
    l.first ≡ first_of (flat_map (wrong_formal l.m.scopes.now.trees.now l.m.lines.machine.now) (take l.f-index l.formals))
