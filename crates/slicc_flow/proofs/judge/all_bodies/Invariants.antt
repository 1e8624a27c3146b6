use Rattle.std.proofs.Common.{◌≡◌, take, flat_map}
use Rattle.slicc_plan.specs.Prelude.{wide_scopes}
use Rattle.slicc_flow.specs.Prelude.{bodies_of_scope}
use Rattle.slicc_flow.proofs.judge.all_bodies.Given as goal

abbrev pub invariant-loop-scope : goal.invariant-loop-scope
invariant-loop-scope l =
    l.list ≡ flat_map (bodies_of_scope l.scopes.trees.now) (take l.scope (wide_scopes l.scopes.trees.now))
