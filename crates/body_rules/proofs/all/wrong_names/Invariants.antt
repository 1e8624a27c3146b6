use Rattle.std.proofs.Common.{◌≡◌, take, flat_map}
use Rattle.slicc_plan.specs.Prelude.{wide_scopes, first_after}
use Rattle.body_rules.specs.Prelude.{wrong_names_within}
use Rattle.body_rules.proofs.all.wrong_names.Given as goal

abbrev pub invariant-loop-number : goal.invariant-loop-number
invariant-loop-number l =
    l.found ≡ first_after l.fn.first (flat_map (wrong_names_within l.fn.scopes.trees.now) (take l.number (wide_scopes l.fn.scopes.trees.now)))
