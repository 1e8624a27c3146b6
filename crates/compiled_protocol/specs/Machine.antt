-- A machine of compiled parts, as values. In code it is borrowed.
use Rattle.std.specs.Prelude.{ℕ, Option, None, Some, slice_get}
use Rattle.action_code.specs.declared.program.MachineDecl.{MachineDecl}
use Rattle.action_gen.specs.declared.parts.Head.{Head}
use Rattle.action_gen.specs.declared.parts.Parts.{Parts}
use Rattle.compiled_protocol.specs.declared.machine.CompiledMachine.{CompiledMachine}

pub record MachineCode : Type 0 where
  pub parts : Parts
  pub number : ℕ
  -- the enumeration of its states
  pub states : ℕ
  pub head : Head

abbrev pub machine_code : CompiledMachine → MachineCode
machine_code m = record { parts = m.parts.now; number = m.number; states = m.states; head = m.head.now }

abbrev pub declared_with : Parts → ℕ → Option MachineDecl → Option Head → Option MachineCode
declared_with parts number (Some m) (Some h) = Some (record { parts = parts; number = number; states = m.states; head = h })
declared_with parts number _ _ = None

-- the machine of this number, where there is one
abbrev pub machine_at : Parts → ℕ → Option MachineCode
machine_at parts number = declared_with parts number (slice_get parts.program.machines number) (slice_get parts.heads number)
