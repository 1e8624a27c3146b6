-- What is taken off a stack, which is seen from the top down.
use Rattle.std.specs.Prelude.{◌≡◌, Option, None, Some, List, [], ◌∷◌}

abbrev pub Popped : {A : Type 0} → Option A → List A → List A → Type 0
Popped (Some x) old new = old ≡ x ∷ new
Popped None old new = (old ≡ []) × (new ≡ [])
