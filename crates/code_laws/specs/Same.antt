-- Two bodies that do the same in each lawful local of a machine: they end with the same answer and leave the same local, or stop with the
-- same fault. In other locals, as no controller of the machine gives them, they may differ.
use Rattle.std.specs.Prelude.{◌≡◌}
use Rattle.ruby_value.specs.declared.setup.MachineSetup.{MachineSetup}
use Rattle.ctl_face.specs.Prelude.{IsLawful, LocalView}
use Rattle.acts.specs.Prelude.{Acting, run}

pub record Same (setup : MachineSetup) {A : Type 0} (p q : Acting A) : Type 0 where
  pub same : (v : LocalView) → IsLawful v → v.machine ≡ setup → run p v ≡ run q v
