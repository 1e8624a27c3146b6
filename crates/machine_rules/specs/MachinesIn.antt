-- A machine of a protocol, with its scope.
use Rattle.std.specs.Prelude.{◌≡◌, List, []}
use Rattle.slicc_ast.specs.declared.tree.machine.Machine.{Machine}
use Rattle.slicc_plan.specs.Prelude.{Scope, everywhere, within}
use Rattle.declared_types.specs.Prelude.{scope_at}
use Rattle.machine_rules.specs.declared.rule.MachineIn.{MachineIn}

-- the scope is the machine's
pub record IsMachineIn (m : MachineIn) : Type 0 where
  pub scope : scope_at m.scopes.now.trees.now m.scope ≡ within m.machine.now

-- what is found in the machine of a scope
abbrev pub found_within : {X : Type 0} → (Machine → List X) → Scope → List X
found_within found everywhere = []
found_within found (within m) = found m
