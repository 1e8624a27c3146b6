-- Where a run goes on after an instruction, and with what: the ways that lead to each place of a body. A place is judged by the way that
-- comes from the least instruction, and the ways to it clash where another one has another shape.
use Rattle.std.specs.Prelude.{ℕ, ◌+◌, ◌==◌, Bool, true, false, not, ◌||◌, Option, None, Some, List, [], ◌∷◌, drop, length, unwrap_or, if◌then◌else◌}
use Rattle.ruby_value.specs.declared.kind.Kind.{Kind}
use Rattle.action_code.specs.declared.arrivals.Arrival.{Arrival}
use Rattle.action_code.specs.declared.instr.Code.{Code}
use Rattle.action_code.specs.declared.instr.Instr.{Instr}
use Rattle.action_code.specs.declared.instr.Instr.TheVariants as instr
use Rattle.action_code.specs.declared.program.BufferDecl.{BufferDecl}
use Rattle.action_code.specs.declared.program.Program.{Program}
use Rattle.action_code.specs.declared.shape.Shape.{Shape}
use Rattle.action_code.specs.declared.sign.Sign.{Sign}
use Rattle.action_code.specs.Shapes.{empty_shape, same_shape}
use Rattle.action_code.specs.Sign.{sign}
use Rattle.action_code.specs.Tables.{buffer_at, machine_of}

-- the place that an instruction jumps to, if it does
abbrev pub target : Instr → Option ℕ
target (instr.Jump to) = Some to
target (instr.Unless to) = Some to
target _ = None

-- whether a run may go on with the next instruction
abbrev pub continues : Instr → Bool
continues (instr.Jump to) = false
continues (instr.Trigger event) = false
continues (instr.Stop fault) = false
continues instr.Ret = false
continues _ = true

abbrev pub with_message : Option BufferDecl → List ℕ → List ℕ
with_message None messages = messages
with_message (Some b) messages = b.message ∷ messages

abbrev pub inner_after : Program → Code → List ℕ → Instr → List ℕ
inner_after p c messages (instr.Peek buffer) = with_message (buffer_at (machine_of p c) buffer) messages
inner_after p c messages instr.Unpeek = drop 1 messages
inner_after p c messages _ = messages

abbrev pub made_after : List ℕ → Instr → List ℕ
made_after messages (instr.New message) = message ∷ messages
made_after messages (instr.Send buffer) = drop 1 messages
made_after messages _ = messages

abbrev pub with_given : Option Kind → List Kind → List Kind
with_given None stack = stack
with_given (Some k) stack = k ∷ stack

-- after an instruction with this sign: its operands are taken off
abbrev pub shape_after : Program → Code → Shape → Instr → Sign → Shape
shape_after p c s i sg =
    record {
      stack = with_given sg.gives (drop (length sg.takes) s.stack);
      inner = inner_after p c s.inner i;
      made = made_after s.made i;
    }

pub record Way : Type 0 where
  pub to : ℕ
  pub shape : Shape

abbrev pub jump_way : Option ℕ → Shape → List Way → List Way
jump_way None s ways = ways
jump_way (Some to) s ways = record { to = to; shape = s } ∷ ways

abbrev pub next_way : Bool → ℕ → Shape → List Way → List Way
next_way false at s ways = ways
next_way true at s ways = record { to = at + 1; shape = s } ∷ ways

-- ways, the newest first, and those from this instruction, after which there is this shape
abbrev pub with_ways : ℕ → Instr → Shape → List Way → List Way
with_ways at i s ways = next_way (continues i) at s (jump_way (target i) s ways)

-- those from an instruction before which there is this shape
abbrev pub ways_after : Program → ℕ → Code → ℕ → Shape → Instr → List Way → List Way
ways_after p body c at s i ways = with_ways at i (shape_after p c s i (sign p body c s i)) ways

abbrev pub no_arrival : Arrival
no_arrival = record { shape = None; clash = false }

-- one more way, after the first that arrived, if one did, and with the clashes so far
abbrev pub arrive_after : Option Shape → Bool → Shape → Arrival
arrive_after None clash s = record { shape = Some s; clash = clash }
arrive_after (Some first) clash s = record { shape = Some first; clash = clash || not (same_shape first s) }

abbrev pub arrive : Arrival → Shape → Arrival
arrive before s = arrive_after before.shape before.clash s

-- what arrives at a place by these ways, the newest first
abbrev pub arrived : ℕ → List Way → Arrival
arrived place [] = no_arrival
arrived place (w ∷ older) = if w.to == place then arrive (arrived place older) w.shape else arrived place older

abbrev pub shape_of : Arrival → Shape
shape_of a = unwrap_or a.shape empty_shape
