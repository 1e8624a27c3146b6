use Rattle.std.proofs.Common.{◌≡◌, ◌++◌, map, take}
use Rattle.slicc_ast.specs.declared.tree.declaration.State.{State}
use Rattle.slicc_plan.specs.Prelude.{permission_number}
use Rattle.protocol_symbols.proofs.states.add_permissions_of.Given as goal

abbrev pub invariant-loop-s : goal.invariant-loop-s
invariant-loop-s l =
    l.list ≡ l.initial.list ++ map (λ (s : State). permission_number s.permission.text) (take l.s-index l.members)
