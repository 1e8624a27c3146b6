-- What each instruction does, as acts. An operand that isn't there counts as false, as built-in calls have it of an argument, and so
-- does a local; a field of a message that isn't there is the fault `reference`. Of a program that fits neither comes. A `trigger` is
-- about the line of its address. A reference that is pushed has the one sort that references have in bodies. Where a body stops with a
-- fault that bodies can't stop with by themselves, it ends with it.
use Rattle.std.specs.Prelude.{ℕ, ◌-◌, ◌*◌, ℤ, Bool, true, false, Option, None, Some, List, [], ◌∷◌, Result, Ok, Err, drop, length, map, min, reverse, slice_get, slice_set, take, unwrap_or, if◌then◌else◌}
use Rattle.std.specs.Option.{option_map}
use Rattle.ruby_value.specs.declared.fault.Fault.{Fault}
use Rattle.ruby_value.specs.declared.fault.Fault.TheVariants as fault
use Rattle.ruby_value.specs.declared.kind.Kind.{Kind}
use Rattle.ruby_value.specs.declared.message.Message.{Message}
use Rattle.ruby_value.specs.declared.value.Value.{Value}
use Rattle.ruby_value.specs.declared.value.Value.TheVariants as value
use Rattle.ruby_value.specs.Prelude.{default_value}
use Rattle.acts.specs.declared.body_fault.BodyFault.{BodyFault}
use Rattle.acts.specs.declared.body_fault.BodyFault.TheVariants as own
use Rattle.acts.specs.Act as act
use Rattle.acts.specs.Prelude.{Acting, ends, stops, ◌>>=◌, ◌>>◌, act as done, found, given}
use Rattle.built_in_acts.specs.declared.machines.KeptMachines.{KeptMachines}
use Rattle.built_in_acts.specs.Prelude.{address_of_line, are_equal, argument, built_in, difference, field_of, is_at_most, is_less, line_named, negation, number, product, reference, sum, truth, with_field}
use Rattle.action_code.specs.declared.instr.Code.{Code}
use Rattle.action_code.specs.declared.instr.Instr.{Instr}
use Rattle.action_code.specs.declared.instr.Instr.TheVariants as instr
use Rattle.action_code.specs.declared.operations.Operation.{Operation}
use Rattle.action_code.specs.declared.program.Program.{Program}
use Rattle.action_code.specs.declared.program.TableDecl.{TableDecl}
use Rattle.action_code.specs.Prelude.{machine_of, operands_of, operations, tables_of}
use Rattle.code_meaning.specs.declared.code_end.CodeEnd.{CodeEnd}
use Rattle.code_meaning.specs.declared.code_end.CodeEnd.TheVariants as code_end
use Rattle.code_meaning.specs.Held.{Held, Step, On, To, Over, innermost}

-- On the stack alone.

abbrev pub with_number : ℕ → List Value → Result ℤ BodyFault → Result (List Value) BodyFault
with_number n stack (Ok x) = Ok (value.Int x ∷ drop n stack)
with_number n stack (Err f) = Err f

abbrev pub summed : List Value → Result (List Value) BodyFault
summed stack = with_number 2 stack (sum (argument stack 1) (argument stack 0))

abbrev pub subtracted : List Value → Result (List Value) BodyFault
subtracted stack = with_number 2 stack (difference (argument stack 1) (argument stack 0))

abbrev pub multiplied : List Value → Result (List Value) BodyFault
multiplied stack = with_number 2 stack (product (argument stack 1) (argument stack 0))

abbrev pub negated : List Value → Result (List Value) BodyFault
negated stack = with_number 1 stack (negation (argument stack 0))

-- a value as it is on the stack, where references have one sort
abbrev pub of_one_sort : Value → Value
of_one_sort (value.Tbe r) = value.Entry r
of_one_sort v = v

abbrev pub opposite : Bool → Bool
opposite true = false
opposite false = true

-- with the truth of a test of the n topmost in their place
abbrev pub tested : ℕ → Bool → List Value → List Value
tested n b stack = value.Bool b ∷ drop n stack

abbrev pub fetched : ℕ → List Value → Acting (List Value)
fetched field stack = field_of (argument stack 0) field >>= (λ v. ends (v ∷ drop 1 stack))

abbrev pub written : ℕ → List Value → Acting (List Value)
written field stack = with_field (argument stack 1) field (argument stack 0) >> ends (drop 2 stack)

-- with a field of a message on top
abbrev pub read_of : List Value → ℕ → List Value → Acting (List Value)
read_of fields field stack = found own.Reference (slice_get fields field) >>= (λ v. ends (v ∷ stack))

-- with the front of a buffer open
abbrev pub opened : ℕ → List (List Value) → Acting (List (List Value))
opened buffer inner = done (act.Front buffer) >>= (λ (m : Message). ends (m.fields ∷ inner))

-- by what becomes of the stack
abbrev pub on_stack : Held → Acting (List Value) → Acting Step
on_stack h changed = changed >>= (λ stack. ends (On (record h { stack = stack })))

-- Calls.

-- how many values an operation, or a body, takes
abbrev pub arity : Option Operation → ℕ
arity None = 0
arity (Some o) = length (operands_of o.arguments)

abbrev pub argument_count : Option Code → ℕ
argument_count None = 0
argument_count (Some c) = length c.arguments

-- the n topmost values, the lowest first
abbrev pub arguments_on : ℕ → List Value → List Value
arguments_on n stack = reverse (take n stack)

-- with what a call of n arguments gives in their place
abbrev pub given_back : ℕ → List Value → Option Value → List Value
given_back n stack None = drop n stack
given_back n stack (Some v) = v ∷ drop n stack

-- after the call of a body of n arguments, which may have ended all
abbrev pub called : ℕ → CodeEnd → Held → Step
called n (code_end.Value v) h = On (record h { stack = v ∷ drop n h.stack })
called n code_end.Nothing h = On (record h { stack = drop n h.stack })
called n end h = Over end

-- of a structure the kinds of its fields; one that isn't there has none
abbrev pub kinds_of : Program → ℕ → List Kind
kinds_of p structure = unwrap_or (slice_get p.structures structure) []

-- where the controllers of a machine keep the numbers of all machines' controllers: in the last fields of its last table. Of more than
-- 255 machines, or a greater place, it is as if there were 255; no protocol has so many.
abbrev pub kept_of : Program → Code → KeptMachines
kept_of p c =
    let tables = tables_of (machine_of p c) in
    let table = length tables - 1 in
    let fields = option_map (λ (t : TableDecl). length (kinds_of p t.structure)) (slice_get tables table) in
    record {
      table = min table 65535;
      first = min (unwrap_or fields 0 - 2 * length p.machines) 255;
      count = min (length p.machines) 255;
    }

abbrev pub operated : Program → Code → (n on : ℕ) → List Value → Acting (List Value)
operated p c n on stack =
    let count = arity (slice_get operations n) in
    built_in (kept_of p c) n on (arguments_on count stack) >>= (λ v. ends (given_back count stack v))

-- Ends.

abbrev pub stop_of : Fault → Acting Step
stop_of fault.Assert = stops own.Assert
stop_of (fault.Error text) = stops (own.Error text)
stop_of fault.Overflow = stops own.Overflow
stop_of fault.Reference = stops own.Reference
stop_of f = ends (Over (code_end.Stop f))

abbrev pub returned : Option Kind → Value → CodeEnd
returned None v = code_end.Nothing
returned (Some k) v = code_end.Value v

abbrev pub triggered : ℕ → List Value → CodeEnd
triggered event stack =
    code_end.Trigger event (address_of_line (line_named (argument stack 2))) (reference (argument stack 1)) (reference (argument stack 0))

-- Instructions.

-- what the bodies do that are called, by their numbers, with these arguments
abbrev pub Bodies : Type 0
Bodies = ℕ → List Value → Acting CodeEnd

-- of a body of a program, where calls do this
abbrev pub code_step : Program → Code → Bodies → Instr → Held → Acting Step
code_step p c calls (instr.Push v structure) h = on_stack h (ends (of_one_sort v ∷ h.stack))
code_step p c calls (instr.Load n) h = on_stack h (ends (argument h.locals n ∷ h.stack))
code_step p c calls (instr.Store n) h =
    ends (On (record h { stack = drop 1 h.stack; locals = slice_set h.locals n (argument h.stack 0) }))
code_step p c calls instr.Add h = on_stack h (given (summed h.stack))
code_step p c calls instr.Sub h = on_stack h (given (subtracted h.stack))
code_step p c calls instr.Mul h = on_stack h (given (multiplied h.stack))
code_step p c calls instr.Neg h = on_stack h (given (negated h.stack))
code_step p c calls instr.Not h = on_stack h (ends (tested 1 (opposite (truth (argument h.stack 0))) h.stack))
code_step p c calls instr.Lt h = on_stack h (ends (tested 2 (is_less (argument h.stack 1) (argument h.stack 0)) h.stack))
code_step p c calls instr.Le h = on_stack h (ends (tested 2 (is_at_most (argument h.stack 1) (argument h.stack 0)) h.stack))
code_step p c calls instr.Eq h = on_stack h (ends (tested 2 (are_equal (argument h.stack 1) (argument h.stack 0)) h.stack))
code_step p c calls (instr.Jump to) h = ends (To to h)
code_step p c calls (instr.Unless to) h =
    ends (if truth (argument h.stack 0) then On (record h { stack = drop 1 h.stack }) else To to (record h { stack = drop 1 h.stack }))
code_step p c calls (instr.Get field) h = on_stack h (fetched field h.stack)
code_step p c calls (instr.Set field) h = on_stack h (written field h.stack)
code_step p c calls (instr.Peek buffer) h = opened buffer h.inner >>= (λ inner. ends (On (record h { inner = inner })))
code_step p c calls (instr.Infield field) h = on_stack h (read_of (innermost h.inner) field h.stack)
code_step p c calls instr.Unpeek h = ends (On (record h { inner = drop 1 h.inner }))
code_step p c calls (instr.New message) h = ends (On (record h { made = map default_value (kinds_of p message) ∷ h.made }))
code_step p c calls (instr.Outfield field) h = on_stack h (read_of (innermost h.made) field h.stack)
code_step p c calls (instr.Setout field) h =
    ends (On (record h { stack = drop 1 h.stack; made = slice_set (innermost h.made) field (argument h.stack 0) ∷ drop 1 h.made }))
code_step p c calls (instr.Send buffer) h =
    done (act.Send buffer (number (argument h.stack 0)) (innermost h.made))
    >> ends (On (record h { stack = drop 1 h.stack; made = drop 1 h.made }))
code_step p c calls (instr.Op n on) h = on_stack h (operated p c n on h.stack)
code_step p c calls (instr.Call n) h =
    let count = argument_count (slice_get p.bodies n) in
    calls n (arguments_on count h.stack) >>= (λ end. ends (called count end h))
code_step p c calls (instr.Trigger event) h = ends (Over (triggered event h.stack))
code_step p c calls (instr.Stop f) h = stop_of f
code_step p c calls instr.Ret h = ends (Over (returned c.result (argument h.stack 0)))
