use Rattle.std.proofs.Common.{◌≡◌, flat_map, take}
use Rattle.slicc_plan.specs.Prelude.{wide_scopes, first_of}
use Rattle.body_rules.specs.Prelude.{broken_within}
use Rattle.body_rules.proofs.all.broken_in_machines.Given as goal

abbrev pub invariant-loop-number : goal.invariant-loop-number
invariant-loop-number l =
    l.found ≡ first_of (flat_map (broken_within l.scopes.trees.now) (take l.number (wide_scopes l.scopes.trees.now)))
