-- What a body does, as data: it ends with an answer, stops with a fault of its own, or does an act and goes on by what the act
-- answers. Only `run` looks at a controller. A body is deterministic and ends, since this data has no other form.
-- The faults that a body gives by itself are four; all others come of its acts, and `invalid` comes of neither.
use Rattle.std.specs.Prelude.{Bool, true, false, Option, None, Some, Result, Ok, Err}
use Rattle.ruby_value.specs.declared.fault.Fault.{Fault}
use Rattle.ruby_value.specs.declared.fault.Fault.TheVariants as fault
use Rattle.ctl_face.specs.Prelude.{LocalView}
use Rattle.acts.specs.declared.body_fault.BodyFault.{BodyFault}
use Rattle.acts.specs.declared.body_fault.BodyFault.TheVariants as own
use Rattle.acts.specs.Act.{Act, answer}
use Rattle.acts.specs.Done.{Done, does}

abbrev pub fault_of : BodyFault → Fault
fault_of own.Assert = fault.Assert
fault_of (own.Error text) = fault.Error text
fault_of own.Overflow = fault.Overflow
fault_of own.Reference = fault.Reference

pub data Acting (A : Type 0) : Type 0 where
  ends : A → Acting A
  stops : BodyFault → Acting A
  acts : (a : Act) → (answer a → Acting A) → Acting A

-- one act, which answers what it answers
unfoldable pub act : (a : Act) → Acting (answer a)
act a = acts a (λ x. ends x)

infixl 5 ◌>>=◌
infixl 5 ◌>>◌
-- one after the other, the second by what the first answers
unfoldable pub ◌>>=◌ : {A B : Type 0} → Acting A → (A → Acting B) → Acting B
ends x >>= next = next x
stops f >>= next = stops f
acts a more >>= next = acts a (λ x. more x >>= next)

unfoldable pub ◌>>◌ : {A B : Type 0} → Acting A → Acting B → Acting B
p >> next = p >>= (λ _. next)

-- what comes after an act that was done
abbrev pub follow : {A B : Type 0} → Result (Done A) Fault → (A → LocalView → Result B Fault) → Result B Fault
follow (Ok d) next = next d.value d.view
follow (Err f) next = Err f

-- a body, done in a local: its answer and the local after it, or the fault at which it stopped
unfoldable pub run : {A : Type 0} → Acting A → LocalView → Result (Done A) Fault
run (ends x) v = Ok (record { value = x; view = v })
run (stops f) v = Err (fault_of f)
run (acts a more) v = follow (does a v) (λ x w. run (more x) w)

-- what needs no controller, or fails
unfoldable pub given : {A : Type 0} → Result A BodyFault → Acting A
given (Ok x) = ends x
given (Err f) = stops f

-- what was found, or else a fault
unfoldable pub found : {A : Type 0} → BodyFault → Option A → Acting A
found f (Some x) = ends x
found f None = stops f

-- what is decided already, or else what this body answers
unfoldable pub decided : {A : Type 0} → Option A → Acting A → Acting A
decided (Some x) p = ends x
decided None p = p

-- by a test, the one or the other
unfoldable pub either : {A : Type 0} → Bool → Acting A → Acting A → Acting A
either true p q = p
either false p q = q
