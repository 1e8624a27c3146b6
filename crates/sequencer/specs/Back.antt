-- What a call does by what its definition has for it: it leaves the requests that the definition has, or it answers the fault
-- that the definition has and leaves them as they were.
use Rattle.std.specs.Prelude.{◌≡◌, Result, Ok, Err}
use Rattle.ruby_value.specs.declared.asked.BackFault.{BackFault}
use Rattle.ruby_value.specs.Prelude.{Requests}

abbrev pub Finishes : {A : Type 0} → Result Requests BackFault → A → Result A BackFault → Requests → Requests → Type 0
Finishes want answer (Ok a) old new = (want ≡ Ok new) × (a ≡ answer)
Finishes want answer (Err fault) old new = (want ≡ Err fault) × (new ≡ old)
