-- What it is for a program to fit, place by place: each body has an instruction, and each instruction keeps each of the six rules, where
-- the shape before it is that of the way from the least instruction that leads to it.
use Rattle.std.specs.Prelude.{◌≡◌, ℕ, ◌+◌, ◌<◌, ◌≤◌, IsTrue, Option, None, Some, List, [], ◌∷◌, length, slice_get, take}
use Rattle.action_code.specs.declared.instr.Code.{Code}
use Rattle.action_code.specs.declared.instr.Instr.{Instr}
use Rattle.action_code.specs.declared.program.Program.{Program}
use Rattle.action_code.specs.declared.shape.Shape.{Shape}
use Rattle.action_code.specs.declared.sign.Sign.{Sign}
use Rattle.action_code.specs.Rules.{Broken, broken_here, rule_at}
use Rattle.action_code.specs.Shapes.{operands_fit, same_shape}
use Rattle.action_code.specs.Sign.{sign}
use Rattle.action_code.specs.Tables.{machine_of}
use Rattle.action_code.specs.Ways.{Way, arrived, continues, shape_of, target, ways_after}

-- the ways from instructions that begin at this place, and those from earlier ones
abbrev pub ways_from : Program → ℕ → Code → List Way → ℕ → List Instr → List Way
ways_from p body c ways at [] = ways
ways_from p body c ways at (i ∷ instructions) =
    ways_from p body c (ways_after p body c at (shape_of (arrived at ways)) i ways) (at + 1) instructions

-- the ways from all instructions before this place
abbrev pub ways_before : Program → ℕ → Code → ℕ → List Way
ways_before p body c at = ways_from p body c [] 0 (take at c.instructions)

abbrev pub shape_before : Program → ℕ → Code → ℕ → Shape
shape_before p body c at = shape_of (arrived at (ways_before p body c at))

-- what is broken at a place, if there is an instruction
abbrev pub broken_by : Program → ℕ → Code → ℕ → Option Instr → Option Broken
broken_by p body c at None = None
broken_by p body c at (Some i) =
    broken_here (rule_at p body c at (ways_before p body c at) i) body at (shape_before p body c at) None

abbrev pub broken_at : Program → ℕ → Code → ℕ → Option Broken
broken_at p body c at = broken_by p body c at (slice_get c.instructions at)

-- an instruction with this sign, of a body of which these ways lead to its place, and before which there is this shape
pub record KeepsRules (p : Program) (c : Code) (at : ℕ) (ways : List Way) (s : Shape) (sg : Sign) (i : Instr) : Type 0 where
  pub operands_are_there : length sg.takes ≤ length s.stack
  pub operands_have_their_kinds : IsTrue (operands_fit (machine_of p c) sg.on sg.takes s.stack)
  pub jumps_forward : (to : ℕ) → target i ≡ Some to → (at < to) × (to < length c.instructions)
  pub ways_agree : (k : ℕ) (w : Way) → slice_get ways k ≡ Some w → w.to ≡ at → IsTrue (same_shape s w.shape)
  pub names_what_is_served : IsTrue sg.known
  pub stays_within : IsTrue (continues i) → at + 1 < length c.instructions

pub record FitsBody (p : Program) (body : ℕ) (c : Code) : Type 0 where
  pub has_an_instruction : 0 < length c.instructions
  pub each : (at : ℕ) (i : Instr) → slice_get c.instructions at ≡ Some i
      → let s = shape_before p body c at in KeepsRules p c at (ways_before p body c at) s (sign p body c s i) i

abbrev pub FitsEachPlace : Program → Type 0
FitsEachPlace p = (body : ℕ) (c : Code) → slice_get p.bodies body ≡ Some c → FitsBody p body c
