-- What each instruction takes off the stack, from the top down, what it gives, and whether what it names is there and is served by it:
-- its locals, fields, tables, buffers, operations and bodies, and the messages that are open. What an equality and an access to a
-- field take depends on the kinds that are on the stack. What an instruction takes is known even where what it names isn't there: of
-- a value that isn't known any kind will do.
use Rattle.std.specs.Prelude.{ℕ, ◌==◌, Bool, true, false, ◌&&◌, Option, None, Some, List, [], ◌∷◌, ◌++◌, is_some, map, nat_lt, reverse, slice_get}
use Rattle.std.specs.Option.{option_and_then, option_map}
use Rattle.ruby_value.specs.declared.kind.Kind.{Kind}
use Rattle.ruby_value.specs.declared.kind.Kind.TheVariants as kind
use Rattle.action_code.specs.declared.instr.Code.{Code}
use Rattle.action_code.specs.declared.instr.Instr.{Instr}
use Rattle.action_code.specs.declared.instr.Instr.TheVariants as instr
use Rattle.action_code.specs.declared.operand.Operand.{Operand}
use Rattle.action_code.specs.declared.operand.Operand.TheVariants as operand
use Rattle.action_code.specs.declared.operations.Operation.{Operation}
use Rattle.action_code.specs.declared.program.BufferDecl.{BufferDecl}
use Rattle.action_code.specs.declared.program.MachineDecl.{MachineDecl}
use Rattle.action_code.specs.declared.program.Program.{Program}
use Rattle.action_code.specs.declared.shape.Shape.{Shape}
use Rattle.action_code.specs.declared.sign.Sign.{Sign}
use Rattle.action_code.specs.Operations.{answered, is_port, operands_of, sends_to, serves}
use Rattle.action_code.specs.Operations.{operations}
use Rattle.action_code.specs.Tables.{buffer_at, machine_of, tables_of}
use Rattle.action_code.specs.Values.{bare, can_push, kind_of}

abbrev pub turns : List Operand → Option Kind → Bool → Sign
turns takes gives known = record { on = 0; takes = takes; gives = gives; known = known }

-- it gives what it names
abbrev pub reads : List Operand → Option Kind → Sign
reads takes found = turns takes found (is_some found)

abbrev pub int : Operand
int = operand.Value kind.Int

abbrev pub bool : Operand
bool = operand.Value kind.Bool

-- a value of a kind, if that is known
abbrev pub wanted : Option Kind → Operand
wanted None = operand.Anything
wanted (Some k) = operand.Value k

-- it takes a value of the kind of what it names, from above these
abbrev pub writes : List Operand → Option Kind → Sign
writes below found = turns (wanted found ∷ below) None (is_some found)

abbrev pub local_kind : Code → ℕ → Option Kind
local_kind c n = option_map bare (slice_get (c.arguments ++ c.locals) n)

abbrev pub structure_of : Kind → Option ℕ
structure_of (kind.Entry n) = Some n
structure_of (kind.Tbe n) = Some n
structure_of _ = None

-- the kind of a field of a structure or message type, if there is such a one
abbrev pub field_of : Program → Option ℕ → ℕ → Option Kind
field_of p structure field =
    option_map bare (option_and_then (λ fields. slice_get fields field) (option_and_then (λ s. slice_get p.structures s) structure))

-- of the structure that a reference at this place of the stack is to
abbrev pub field_through : Program → Shape → ℕ → ℕ → Option Kind
field_through p s place field = field_of p (option_and_then structure_of (slice_get s.stack place)) field

abbrev pub can_send : Option ℕ → Option BufferDecl → Bool
can_send None b = false
can_send (Some message) None = false
can_send (Some message) (Some b) = b.message == message && sends_to b.place

abbrev pub operation_sign : Option MachineDecl → ℕ → Option Operation → Sign
operation_sign m on None = record { on = on; takes = []; gives = None; known = false }
operation_sign m on (Some o) = record { on = on; takes = operands_of o.arguments; gives = answered m on o.answer; known = serves m on o.on }

-- of a call of the body of this number from a body of that machine with that number
abbrev pub call_sign : (machine body number : ℕ) → Option Code → Sign
call_sign machine body number None = turns [] None false
call_sign machine body number (Some c) =
    turns (reverse (map operand.Value c.arguments)) (option_map bare c.result) (nat_lt number body && c.machine == machine)

abbrev pub result_operand : Option Kind → List Operand
result_operand None = []
result_operand (Some k) = operand.Value k ∷ []

-- of an instruction of the body of this number, before which there is this shape
abbrev pub sign : Program → ℕ → Code → Shape → Instr → Sign
sign p body c s (instr.Push v structure) =
    turns [] (Some (kind_of (tables_of (machine_of p c)) v structure)) (can_push (tables_of (machine_of p c)) v)
sign p body c s (instr.Load n) = reads [] (local_kind c n)
sign p body c s (instr.Store n) = writes [] (local_kind c n)
sign p body c s instr.Add = turns (int ∷ int ∷ []) (Some kind.Int) true
sign p body c s instr.Sub = turns (int ∷ int ∷ []) (Some kind.Int) true
sign p body c s instr.Mul = turns (int ∷ int ∷ []) (Some kind.Int) true
sign p body c s instr.Neg = turns (int ∷ []) (Some kind.Int) true
sign p body c s instr.Not = turns (bool ∷ []) (Some kind.Bool) true
sign p body c s instr.Lt = turns (int ∷ int ∷ []) (Some kind.Bool) true
sign p body c s instr.Le = turns (int ∷ int ∷ []) (Some kind.Bool) true
sign p body c s instr.Eq = turns (operand.Anything ∷ wanted (slice_get s.stack 0) ∷ []) (Some kind.Bool) true
sign p body c s (instr.Jump to) = turns [] None true
sign p body c s (instr.Unless to) = turns (bool ∷ []) None true
sign p body c s (instr.Get field) = reads (operand.Reference ∷ []) (field_through p s 0 field)
sign p body c s (instr.Set field) = writes (operand.Reference ∷ []) (field_through p s 1 field)
sign p body c s (instr.Peek buffer) = turns [] None (is_port (buffer_at (machine_of p c) buffer))
sign p body c s (instr.Infield field) = reads [] (field_of p (slice_get s.inner 0) field)
sign p body c s instr.Unpeek = turns [] None (is_some (slice_get s.inner 0))
sign p body c s (instr.New message) = turns [] None (is_some (slice_get p.structures message))
sign p body c s (instr.Outfield field) = reads [] (field_of p (slice_get s.made 0) field)
sign p body c s (instr.Setout field) = writes [] (field_of p (slice_get s.made 0) field)
sign p body c s (instr.Send buffer) = turns (int ∷ []) None (can_send (slice_get s.made 0) (buffer_at (machine_of p c) buffer))
sign p body c s (instr.Op n on) = operation_sign (machine_of p c) on (slice_get operations n)
sign p body c s (instr.Call n) = call_sign c.machine body n (slice_get p.bodies n)
sign p body c s (instr.Trigger event) = turns (operand.Tbe ∷ operand.Entry ∷ operand.Value kind.Addr ∷ []) None true
sign p body c s (instr.Stop fault) = turns [] None true
sign p body c s instr.Ret = turns (result_operand c.result) None true
