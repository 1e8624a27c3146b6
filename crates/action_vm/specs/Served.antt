-- What a run of verified code may ask of a local without a test: acts that its machine serves.
use Rattle.std.specs.Prelude.{◌≡◌, ℕ, Some, List, IsTrue}
use Rattle.ruby_value.specs.declared.value.Ref.{Ref}
use Rattle.ruby_value.specs.declared.value.Value.{Value}
use Rattle.ctl_face.specs.Prelude.{LocalView}
use Rattle.acts.specs.Act.{Act, Get, Send, Set}
use Rattle.acts.specs.Prelude.{serves}
use Rattle.built_in_acts.specs.Prelude.{argument, number, reference}

abbrev pub IsServed : LocalView → Act → Type 0
IsServed v a = IsTrue (serves v.machine a)

-- the reference on top, if it is to a line, is to one with this field
abbrev pub CanGet : LocalView → ℕ → List Value → Type 0
CanGet v field stack = (r : Ref) → reference (argument stack 0) ≡ Some r → IsServed v (Get r field)

-- so is the one below the value on top, and the field may hold the value
abbrev pub CanSet : LocalView → ℕ → List Value → Type 0
CanSet v field stack = (r : Ref) → reference (argument stack 1) ≡ Some r → IsServed v (Set r field (argument stack 0))

-- a message with these fields may be sent, after the latency on top
abbrev pub CanSend : LocalView → ℕ → List Value → List Value → Type 0
CanSend v buffer fields stack = IsServed v (Send buffer (number (argument stack 0)) fields)
