-- The rules of action code, instruction by instruction, and the first that is broken. By number: 1, each operand is there; 2, it has the
-- right kind; 3, a jump is forward and within the body; 4, all ways to one place have the same stack and the same open messages; 5, what
-- an instruction names is there and is served by it; 6, the last instruction doesn't let the run go past the end. An instruction that no
-- way leads to is judged with an empty stack and no open message. Of the rules that one instruction breaks the least is the first.
use Rattle.std.specs.Prelude.{ℕ, ◌+◌, Bool, true, not, ◌&&◌, ◌||◌, Option, None, Some, List, [], ◌∷◌, length, nat_le, nat_lt, reverse, if◌then◌else◌}
use Rattle.ruby_value.specs.declared.kind.Kind.{Kind}
use Rattle.action_code.specs.declared.instr.Code.{Code}
use Rattle.action_code.specs.declared.instr.Instr.{Instr}
use Rattle.action_code.specs.declared.program.MachineDecl.{MachineDecl}
use Rattle.action_code.specs.declared.program.Program.{Program}
use Rattle.action_code.specs.declared.shape.Shape.{Shape}
use Rattle.action_code.specs.declared.sign.Sign.{Sign}
use Rattle.action_code.specs.Shapes.{operands_fit}
use Rattle.action_code.specs.Sign.{sign}
use Rattle.action_code.specs.Tables.{machine_of}
use Rattle.action_code.specs.Ways.{Way, arrived, continues, shape_of, target, ways_after}

abbrev pub has_operands : Sign → Shape → Bool
has_operands sg s = nat_le (length sg.takes) (length s.stack)

-- in a body of this many instructions
abbrev pub jumps_forward : (count at : ℕ) → Option ℕ → Bool
jumps_forward count at None = true
jumps_forward count at (Some to) = nat_lt at to && nat_lt to count

abbrev pub stays_within : (count at : ℕ) → Instr → Bool
stays_within count at i = not (continues i) || nat_lt (at + 1) count

-- the least rule that isn't kept
abbrev pub least_broken : (one two three four five six : Bool) → Option ℕ
least_broken one two three four five six =
    if not one then Some 1
    else if not two then Some 2
    else if not three then Some 3
    else if not four then Some 4
    else if not five then Some 5
    else if not six then Some 6 else None

-- of an instruction with this sign, before which there is this shape and the ways clash or don't, of a body of this many
abbrev pub rule_broken : Option MachineDecl → (count at : ℕ) → (clash : Bool) → Shape → Sign → Instr → Option ℕ
rule_broken m count at clash s sg i =
    least_broken (has_operands sg s) (operands_fit m sg.on sg.takes s.stack) (jumps_forward count at (target i)) (not clash) sg.known
    (stays_within count at i)

-- of an instruction of a body, to whose place these ways lead
abbrev pub rule_at : Program → ℕ → Code → ℕ → List Way → Instr → Option ℕ
rule_at p body c at ways i =
    let s = shape_of (arrived at ways) in
    rule_broken (machine_of p c) (length c.instructions) at (arrived at ways).clash s (sign p body c s i) i

-- a rule that is broken, where, and the kinds on the stack before that instruction, from the bottom up
pub record Broken : Type 0 where
  pub rule : ℕ
  pub body : ℕ
  pub at : ℕ
  pub kept : List Kind

-- the rule that is broken at a place, or what is broken later
abbrev pub broken_here : Option ℕ → ℕ → ℕ → Shape → Option Broken → Option Broken
broken_here None body at s later = later
broken_here (Some rule) body at s later = Some (record { rule = rule; body = body; at = at; kept = reverse s.stack })

-- the first that is broken by these instructions of a body, which begin at this place, where these ways lead from earlier ones
abbrev pub broken_from : Program → ℕ → Code → List Way → ℕ → List Instr → Option Broken
broken_from p body c ways at [] = None
broken_from p body c ways at (i ∷ instructions) =
    let s = shape_of (arrived at ways) in
    broken_here (rule_at p body c at ways i) body at s (broken_from p body c (ways_after p body c at s i ways) (at + 1) instructions)

-- a body without instructions counts as one that goes past its end at once
abbrev pub broken_in : Program → ℕ → Code → List Instr → Option Broken
broken_in p body c [] = Some (record { rule = 6; body = body; at = 0; kept = [] })
broken_in p body c (i ∷ instructions) = broken_from p body c [] 0 (i ∷ instructions)

abbrev pub or_later : Option Broken → Option Broken → Option Broken
or_later None later = later
or_later (Some b) later = Some b

-- in these bodies, which are numbered from this one on
abbrev pub broken_in_bodies : Program → ℕ → List Code → Option Broken
broken_in_bodies p body [] = None
broken_in_bodies p body (c ∷ bodies) = or_later (broken_in p body c c.instructions) (broken_in_bodies p (body + 1) bodies)

abbrev pub first_broken : Program → Option Broken
first_broken p = broken_in_bodies p 0 p.bodies
