use Rattle.std.proofs.Common.{◌≡◌, take}
use Rattle.slicc_plan.specs.Prelude.{global_declarations}
use Rattle.declared_types.specs.Prelude.{declarations_of}
use Rattle.declared_types.proofs.lists.global_list.Given as goal

abbrev pub invariant-loop-tree : goal.invariant-loop-tree
invariant-loop-tree l = declarations_of l.list ≡ global_declarations (take l.tree-index l.trees)
