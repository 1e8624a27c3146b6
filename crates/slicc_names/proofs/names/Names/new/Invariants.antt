use Rattle.std.proofs.Common.{◌≡◌, map, take}
use Rattle.slicc_names.specs.Prelude.{scope_names}
use Rattle.slicc_plan.specs.Prelude.{wide_scopes}
use Rattle.slicc_names.proofs.names.Names.new.Given as goal

abbrev pub invariant-loop-number : goal.invariant-loop-number
invariant-loop-number l = l.all ≡ map (scope_names l.scopes.trees.now) (take l.number (wide_scopes l.scopes.trees.now))
