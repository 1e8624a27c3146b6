use Rattle.std.proofs.Common.{◌≡◌, ◌++◌, take, flat_map}
use Rattle.slicc_plan.specs.Prelude.{named_declarations}
use Rattle.declared_types.specs.Prelude.{declarations_of}
use Rattle.declared_types.proofs.lists.add_declarations.Given as goal

abbrev pub invariant-loop-d : goal.invariant-loop-d
invariant-loop-d l = declarations_of l.list ≡ declarations_of l.fn.list ++ flat_map named_declarations (take l.d-index l.declarations)
