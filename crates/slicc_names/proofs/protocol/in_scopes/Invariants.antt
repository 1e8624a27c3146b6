use Rattle.std.proofs.Common.{◌≡◌, flat_map, take}
use Rattle.slicc_plan.specs.Prelude.{wide_scopes, beyond_in_scope, first_after}
use Rattle.slicc_names.proofs.protocol.in_scopes.Given as goal

abbrev pub invariant-loop-number : goal.invariant-loop-number
invariant-loop-number l = l.first ≡ first_after l.initial.first (flat_map (beyond_in_scope l.scopes.trees.now) (take l.number (wide_scopes l.scopes.trees.now)))
