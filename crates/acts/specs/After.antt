-- What holds after a body: a property of the local that it leaves, where it ends without a fault; and that it agrees in two locals,
-- where it ends with equal answers and leaves locals that are related, or stops with the same fault.
use Rattle.std.specs.Prelude.{◌≡◌, Result, Ok, Err}
use Rattle.ruby_value.specs.declared.fault.Fault.{Fault}
use Rattle.ctl_face.specs.Prelude.{LocalView}
use Rattle.acts.specs.Done.{Done}

abbrev pub HoldsAfter : {A : Type 0} → (LocalView → Type 0) → Result (Done A) Fault → Type 0
HoldsAfter I (Ok d) = I d.view
HoldsAfter I (Err f) = Unit {0}

abbrev pub Agrees : {A : Type 0} → (LocalView → LocalView → Type 0) → Result (Done A) Fault → Result (Done A) Fault → Type 0
Agrees R (Ok d) (Ok e) = (d.value ≡ e.value) × R d.view e.view
Agrees R (Err f) (Err g) = f ≡ g
Agrees R _ _ = ⊥
