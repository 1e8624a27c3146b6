-- What a stack has on top: a value of a sort, and below it what is wanted there. Of a program that fits, each instruction finds it.
use Rattle.std.specs.Prelude.{◌≡◌, Option, List, [], ◌∷◌}
use Rattle.ruby_value.specs.declared.value.Ref.{Ref}
use Rattle.ruby_value.specs.declared.value.Value.{Value}
use Rattle.ruby_value.specs.declared.value.Value.TheVariants as value

abbrev pub Over : (Value → Type 0) → (List Value → Type 0) → List Value → Type 0
Over P Q [] = ⊥
Over P Q (v ∷ stack) = P v × Q stack

-- whatever is there
abbrev pub Rest : List Value → Type 0
Rest stack = Unit {0}

abbrev pub Any : Value → Type 0
Any v = Unit {0}

abbrev pub IsInt : Value → Type 0
IsInt (value.Int n) = Unit {0}
IsInt _ = ⊥

abbrev pub IsBool : Value → Type 0
IsBool (value.Bool b) = Unit {0}
IsBool _ = ⊥

abbrev pub IsAddress : Value → Type 0
IsAddress (value.Addr a) = Unit {0}
IsAddress _ = ⊥

abbrev pub IsReference : Value → Type 0
IsReference (value.Entry r) = Unit {0}
IsReference (value.Tbe r) = Unit {0}
IsReference _ = ⊥

-- a reference on top of what is left, whichever sort of value holds it
abbrev pub IsTopReference : List Value → Option Ref → List Value → Type 0
IsTopReference [] r left = ⊥
IsTopReference (value.Entry held ∷ stack) r left = (held ≡ r) × (stack ≡ left)
IsTopReference (value.Tbe held ∷ stack) r left = (held ≡ r) × (stack ≡ left)
IsTopReference (v ∷ stack) r left = ⊥
