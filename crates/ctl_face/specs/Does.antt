-- What a call of a local does and answers, by what its definition has for it. Where it answers well, the definition has the
-- local that there is afterwards; where it answers a fault, the definition has that fault, and nothing has changed; and
-- without memory nothing has changed. In no case does it leave the scan. Which words the faults are is this project's own.
use Rattle.std.specs.Prelude.{◌≡◌, Result, Ok, Err}
use Rattle.ruby_value.specs.declared.fault.Fault.{Fault}
use Rattle.ctl_face.specs.declared.trouble.Trouble.{Trouble}
use Rattle.ctl_face.specs.declared.trouble.Trouble.TheVariants as trouble
use Rattle.ctl_face.specs.LocalView.{LocalView, SameScan}

-- with an answer beside what is done
abbrev pub Comes : {A : Type 0} → Result LocalView Fault → A → Result A Trouble → LocalView → LocalView → Type 0
Comes want answer (Ok a) old new = (want ≡ Ok new) × (a ≡ answer)
Comes want answer (Err (trouble.Fault fault)) old new = (want ≡ Err fault) × (new ≡ old)
Comes want answer (Err trouble.NoMemory) old new = new ≡ old

pub record DoesWith {A : Type 0} (want : Result LocalView Fault) (answer : A) (result : Result A Trouble) (old new : LocalView) : Type 0 where
  pub comes : Comes want answer result old new
  pub scan : SameScan old new

-- with no other answer
abbrev pub Does : Result LocalView Fault → Result (Unit {0}) Trouble → LocalView → LocalView → Type 0
Does want result old new = DoesWith want tt result old new

-- what a call that only reads answers
abbrev pub Reads : {A : Type 0} → Result A Fault → Result A Trouble → Type 0
Reads want (Ok a) = want ≡ Ok a
Reads want (Err (trouble.Fault fault)) = want ≡ Err fault
Reads want (Err trouble.NoMemory) = Unit {0}

-- what one answers that takes no memory
abbrev pub answered : {A : Type 0} → Result A Fault → Result A Trouble
answered (Ok a) = Ok a
answered (Err fault) = Err (trouble.Fault fault)
