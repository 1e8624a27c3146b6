use Rattle.std.proofs.Common.{◌≡◌, ◌++◌, take, map}
use Rattle.slicc_plan.specs.Prelude.{parameter}
use Rattle.declared_types.specs.Prelude.{declarations_of}
use Rattle.declared_types.proofs.lists.add_parameters.Given as goal

abbrev pub invariant-loop-p : goal.invariant-loop-p
invariant-loop-p l = declarations_of l.list ≡ declarations_of l.fn.list ++ map parameter (take l.p-index l.parameters)
