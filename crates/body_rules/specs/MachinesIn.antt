-- A machine of a protocol, with its scope and the structures of its lines.
use Rattle.std.specs.Prelude.{◌≡◌}
use Rattle.slicc_plan.specs.Prelude.{within}
use Rattle.declared_types.specs.Prelude.{scope_at}
use Rattle.body_types.specs.Prelude.{AreLines}
use Rattle.body_rules.specs.declared.machine_in.MachineIn.{MachineIn}

-- the scope is the machine's, and the structures are those of its lines
pub record IsMachineIn (m : MachineIn) : Type 0 where
  pub lines : AreLines m.lines
  pub scope : scope_at m.scopes.now.trees.now m.scope ≡ within m.lines.machine.now
