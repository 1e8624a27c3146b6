use Rattle.std.proofs.Common.{◌≡◌, drop, find, flat_map}
use Rattle.slicc_plan.specs.Prelude.{machines_of, wide_scopes}
use Rattle.call_types.specs.Prelude.{has_permissions, machines_in}
use Rattle.call_types.proofs.called.permission_named.Given as goal

abbrev pub invariant-loop-number : goal.invariant-loop-number
invariant-loop-number l =
    find (has_permissions l.text) (machines_of l.scopes.trees.now) ≡ find (has_permissions l.text) (flat_map machines_in (drop l.number (wide_scopes l.scopes.trees.now)))
