-- What a function of the code does and answers, by the body that it is to be: where it answers well, the body ends with what the
-- answer means, and leaves the local that there is afterwards; where it answers a fault, the body stops with that fault. Without
-- memory nothing is said, and after an error nothing of the local, which its scan drops.
use Rattle.std.specs.Prelude.{◌≡◌, Result, Ok, Err}
use Rattle.ctl_face.specs.declared.trouble.Trouble.{Trouble}
use Rattle.ctl_face.specs.declared.trouble.Trouble.TheVariants as trouble
use Rattle.ctl_face.specs.Prelude.{LocalView}
use Rattle.acts.specs.Acting.{Acting, run}

unfoldable pub DoesAs : {A R : Type 0} → (R → A) → Acting A → Result R Trouble → LocalView → LocalView → Type 0
DoesAs means p (Ok r) old new = run p old ≡ Ok (record { value = means r; view = new })
DoesAs means p (Err (trouble.Fault fault)) old new = run p old ≡ Err fault
DoesAs means p (Err trouble.NoMemory) old new = Unit {0}

-- where the answer of the code is that of the body
abbrev pub itself : {A : Type 0} → A → A
itself x = x
