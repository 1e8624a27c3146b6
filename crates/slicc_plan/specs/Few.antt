-- What a protocol has at most where its declarations keep all rules. The four enumerations that are built in don't count here,
-- nor do external structures.
use Rattle.std.specs.Prelude.{◌≤◌, All, List, filter, length}
use Rattle.slicc_ast.specs.declared.tree.item.Tree.{Tree}
use Rattle.slicc_ast.specs.declared.tree.machine.Machine.{Machine}
use Rattle.slicc_plan.specs.Declarations.{machine_declarations, machines_of}
use Rattle.slicc_plan.specs.Limits.{event_members, is_action, state_members}
use Rattle.slicc_plan.specs.TypeNumbers.{declared_enumerations, declared_structures}

pub record HasFewParts (m : Machine) : Type 0 where
  pub states : length (state_members m) ≤ 256
  pub events : length (event_members m) ≤ 256
  pub actions : length (filter is_action (machine_declarations m)) ≤ 256

pub record HasFewMachines (trees : List Tree) : Type 0 where
  pub machines : length (machines_of trees) ≤ 16
  pub each : All HasFewParts (machines_of trees)

-- enumerations with state declarations, and structures, of the protocol and its machines together
pub record HasFewTypes (trees : List Tree) : Type 0 where
  pub enumerations : length (declared_enumerations trees) ≤ 16380
  pub structures : length (declared_structures trees) ≤ 16384
