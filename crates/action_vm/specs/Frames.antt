-- What a run of a body has of its own, and what that means: the open messages that are looked at are kept by their places, which have
-- the same messages through a scan. And what an instruction needs to find there, so that it tests nothing.
use Rattle.std.specs.Prelude.{◌<◌, ◌≤◌, ℕ, Option, None, Some, List, ◌∷◌, Result, Ok, Err, drop, length, map, slice_get}
use Rattle.std.specs.List.{All}
use Rattle.ruby_value.specs.declared.kind.Kind.{Kind}
use Rattle.ruby_value.specs.declared.value.Value.{Value}
use Rattle.ruby_base.specs.declared.memory.NoMemory.{NoMemory}
use Rattle.ctl_face.specs.declared.trouble.Trouble.{Trouble}
use Rattle.ctl_face.specs.declared.trouble.Trouble.TheVariants as trouble
use Rattle.ctl_face.specs.declared.message_at.MessageAt.{MessageAt}
use Rattle.ctl_face.specs.Prelude.{IsPlace, LocalView}
use Rattle.acts.specs.Act.{Front}
use Rattle.acts.specs.Prelude.{message_there}
use Rattle.action_code.specs.declared.instr.Code.{Code}
use Rattle.action_code.specs.declared.instr.Instr.{Instr}
use Rattle.action_code.specs.declared.instr.Instr.TheVariants as instr
use Rattle.code_meaning.specs.declared.code_end.CodeEnd.{CodeEnd}
use Rattle.code_meaning.specs.declared.code_end.CodeEnd.TheVariants as code_end
use Rattle.built_in_acts.specs.Prelude.{argument}
use Rattle.action_code.specs.Prelude.{operations}
use Rattle.code_meaning.specs.Prelude.{Held, On, Over as Ends, Step, To, arity, innermost}
use Rattle.action_vm.specs.Served.{CanGet, CanSend, CanSet, IsServed}
use Rattle.action_vm.specs.declared.frame.Ended.{Ended}
use Rattle.action_vm.specs.declared.frame.Ended.TheVariants as ended
use Rattle.action_vm.specs.declared.frame.Next.{Next}
use Rattle.action_vm.specs.declared.frame.Next.TheVariants as next
use Rattle.action_vm.specs.declared.frame.Messages.{Messages}
use Rattle.code_frame.specs.Prelude.{Any, IsAddress, IsBool, IsInt, IsReference, Over, Rest, Window}

-- the fields of the messages at these places
abbrev pub fields_at : LocalView → List MessageAt → List (List Value)
fields_at v places = map (λ at. (message_there v at).fields) places

pub record Own : Type 0 where
  pub stack : List Value
  pub locals : List Value
  pub inner : List MessageAt
  pub made : List (List Value)

abbrev pub own : Window → Messages → Own
own w o = record { stack = w.stack; locals = w.locals; inner = o.inner; made = o.made }

abbrev pub held_of : LocalView → Own → Held
held_of v f = record { stack = f.stack; locals = f.locals; inner = fields_at v f.inner; made = f.made }

-- that each open message is at a place of this scan
abbrev pub HasPlaces : LocalView → List MessageAt → Type 0
HasPlaces v places = All (IsPlace v) places

-- the end that the code answers, with the stack that it leaves
abbrev pub end_of : Ended → List Value → CodeEnd
end_of ended.Value stack = code_end.Value (argument stack 0)
end_of ended.Nothing stack = code_end.Nothing
end_of (ended.Trigger event address entry tbe) stack = code_end.Trigger event address entry tbe
end_of (ended.Stop f) stack = code_end.Stop f

-- the step that the code answers, with what it leaves
abbrev pub step_of : LocalView → Own → Next → Step
step_of v f next.On = On (held_of v f)
step_of v f (next.To to) = To to (held_of v f)
step_of v f (next.Over end) = Ends (end_of end f.stack)

-- the result of a body that ends with a value is on the stack
abbrev pub HasResult : Ended → List Value → Type 0
HasResult ended.Value stack = Over Any Rest stack
HasResult end stack = Unit {0}

abbrev pub HasResultAfter : Next → List Value → Type 0
HasResultAfter (next.Over end) stack = HasResult end stack
HasResultAfter n stack = Unit {0}

-- where a body of n arguments was called: its result is in their place, where it has one
abbrev pub left_by : Ended → Value → ℕ → Window → Window
left_by ended.Value v n w = record w { stack = v ∷ drop n w.stack }
left_by end v n w = record w { stack = drop n w.stack }

-- the run that called goes on, or ends as the body that was called did
abbrev pub called_next : Ended → Next
called_next ended.Value = next.On
called_next ended.Nothing = next.On
called_next end = next.Over end

abbrev pub NeedsResult : Option Kind → List Value → Type 0
NeedsResult None stack = Unit {0}
NeedsResult (Some k) stack = Over Any Rest stack

-- what an instruction of a body finds there, in a local; of a call its own arm says that
abbrev pub Needs : LocalView → Code → Instr → Own → Type 0
Needs v c (instr.Load n) f = n < length f.locals
Needs v c (instr.Store n) f = Over Any Rest f.stack × (n < length f.locals)
Needs v c instr.Add f = Over IsInt (Over IsInt Rest) f.stack
Needs v c instr.Sub f = Over IsInt (Over IsInt Rest) f.stack
Needs v c instr.Mul f = Over IsInt (Over IsInt Rest) f.stack
Needs v c instr.Neg f = Over IsInt Rest f.stack
Needs v c instr.Not f = Over IsBool Rest f.stack
Needs v c instr.Lt f = Over IsInt (Over IsInt Rest) f.stack
Needs v c instr.Le f = Over IsInt (Over IsInt Rest) f.stack
Needs v c instr.Eq f = Over Any (Over Any Rest) f.stack
Needs v c (instr.Unless to) f = Over IsBool Rest f.stack
Needs v c (instr.Get field) f = Over IsReference Rest f.stack × CanGet v field f.stack
Needs v c (instr.Set field) f = Over Any (Over IsReference Rest) f.stack × CanSet v field f.stack
Needs v c (instr.Peek buffer) f = IsServed v (Front buffer)
Needs v c (instr.Infield field) f = 0 < length f.inner
Needs v c (instr.Outfield field) f = 0 < length f.made
Needs v c (instr.Setout field) f = Over Any Rest f.stack × (0 < length f.made)
Needs v c (instr.Send buffer) f = Over IsInt Rest f.stack × (0 < length f.made) × CanSend v buffer (innermost f.made) f.stack
Needs v c (instr.Op n on) f = arity (slice_get operations n) ≤ length f.stack
Needs v c (instr.Trigger event) f = Over IsReference (Over IsReference (Over IsAddress Rest)) f.stack
Needs v c instr.Ret f = NeedsResult c.result f.stack
Needs v c i f = Unit {0}

abbrev pub IsNoCall : Instr → Type 0
IsNoCall (instr.Call n) = ⊥
IsNoCall i = Unit {0}

-- the run goes on after this
abbrev pub on_of : Result (Unit {0}) Trouble → Result Next Trouble
on_of (Ok done) = Ok next.On
on_of (Err trouble) = Err trouble

abbrev pub on_of_memory : Result (Unit {0}) NoMemory → Result Next Trouble
on_of_memory (Ok done) = Ok next.On
on_of_memory (Err none) = Err trouble.NoMemory
