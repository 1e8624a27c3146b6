-- What a call that changes tables does, by what its definition has for the list of tables: where it answers well, that is the
-- list that there is afterwards; where it answers a fault, the definition has that fault, and nothing has changed; and without
-- memory nothing has changed.
use Rattle.std.specs.Prelude.{◌≡◌, List, Result, Ok, Err}
use Rattle.ruby_value.specs.declared.fault.Fault.{Fault}
use Rattle.ctl_face.specs.declared.trouble.Trouble.{Trouble}
use Rattle.ctl_face.specs.declared.trouble.Trouble.TheVariants as trouble
use Rattle.ctl_face.specs.Prelude.{Table}

abbrev pub DoesIn : {A : Type 0} → Result (List Table) Fault → Result A Trouble → List Table → List Table → Type 0
DoesIn want (Ok a) old new = want ≡ Ok new
DoesIn want (Err (trouble.Fault fault)) old new = (want ≡ Err fault) × (new ≡ old)
DoesIn want (Err trouble.NoMemory) old new = new ≡ old
