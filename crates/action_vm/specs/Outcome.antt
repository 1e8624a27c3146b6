-- What it is to run a body: the call may be made, and its answer is that of the body. A fault at which the body stops is the end that it
-- comes to, and so is one that it ends with; after a fault nothing is said of the local, which its scan drops, and nothing without memory.
use Rattle.std.specs.Prelude.{◌≡◌, ◌≤◌, true, Option, None, Some, List, Result, Ok, Err, length}
use Rattle.ruby_value.specs.declared.fault.Fault.{Fault}
use Rattle.ruby_value.specs.declared.value.Value.{Value}
use Rattle.ruby_base.specs.declared.memory.NoMemory.{NoMemory}
use Rattle.ctl_face.specs.declared.trouble.Trouble.{Trouble}
use Rattle.ctl_face.specs.declared.trouble.Trouble.TheVariants as trouble
use Rattle.ctl_face.specs.Prelude.{LocalView}
use Rattle.acts.specs.Prelude.{Acting, Done, run}
use Rattle.action_code.specs.declared.instr.Code.{Code}
use Rattle.action_code.specs.declared.program.Program.{Program}
use Rattle.action_code.specs.Prelude.{machine_of, tables_of}
use Rattle.code_meaning.specs.declared.code_end.CodeEnd.{CodeEnd}
use Rattle.code_meaning.specs.declared.code_end.CodeEnd.TheVariants as code_end
use Rattle.action_vm.specs.declared.frame.Ended.{Ended}
use Rattle.action_vm.specs.Frames.{end_of}
use Rattle.code_meaning.specs.Prelude.{IsDeclared, are_of_kinds, argument_count, arguments_on, is_end_of}

-- the arguments have a body's kinds, and the local is one of its machine
pub record MayRun (p : Program) (c : Code) (given : List Value) (v : LocalView) : Type 0 where
  pub arguments : are_of_kinds (tables_of (machine_of p c)) c.arguments given ≡ true
  pub machine : IsDeclared p (machine_of p c) v.machine

-- so it is of the body of this number, which is there
abbrev pub IsCallOf : Program → Option Code → List Value → LocalView → Type 0
IsCallOf p None arguments v = ⊥
IsCallOf p (Some c) arguments v = MayRun p c arguments v

-- a fault with which a body ends is one at which it stops
abbrev pub outcome : Result (Done CodeEnd) Fault → Result (Done CodeEnd) Fault
outcome (Err f) = Err f
outcome (Ok d) = ended d.value d.view
  where
    ended : CodeEnd → LocalView → Result (Done CodeEnd) Fault
    ended (code_end.Stop f) w = Err f
    ended end w = Ok (record { value = end; view = w })

-- so it is with the arguments on top of a stack
abbrev pub IsCallOn : Program → Option Code → List Value → LocalView → Type 0
IsCallOn p o stack v = IsCallOf p o (arguments_on (argument_count o) stack) v × (argument_count o ≤ length stack)

abbrev pub EndsAs : Acting CodeEnd → Result CodeEnd NoMemory → LocalView → LocalView → Type 0
EndsAs q (Ok (code_end.Stop f)) old new = outcome (run q old) ≡ Err f
EndsAs q (Ok end) old new = outcome (run q old) ≡ Ok (record { value = end; view = new })
EndsAs q (Err none) old new = Unit {0}

-- the answer of the call, by that of the run and the stack that it leaves
abbrev pub code_answer : Result Ended Trouble → List Value → Result CodeEnd NoMemory
code_answer (Ok end) stack = Ok (end_of end stack)
code_answer (Err (trouble.Fault f)) stack = Ok (code_end.Stop f)
code_answer (Err trouble.NoMemory) stack = Err (record {})

-- and it is an end of a body with that result: a value is of the kind that the body of this number is declared to give
abbrev pub EndsOfKind : Program → Option Code → Result CodeEnd NoMemory → Type 0
EndsOfKind p (Some c) (Ok end) = is_end_of (tables_of (machine_of p c)) c.result end ≡ true
EndsOfKind p c r = Unit {0}
