-- A stack with a reference on top of what is left of it, whichever sort of value holds it.
use Rattle.std.specs.Prelude.{◌≡◌, Option, List, [], ◌∷◌}
use Rattle.ruby_value.specs.declared.value.Ref.{Ref}
use Rattle.ruby_value.specs.declared.value.Value.{Value}
use Rattle.built_in_acts.specs.Prelude.{reference}

abbrev pub IsOverReference : List Value → Option Ref → List Value → Type 0
IsOverReference [] r left = ⊥
IsOverReference (v ∷ stack) r left = (reference v ≡ r) × (stack ≡ left)
