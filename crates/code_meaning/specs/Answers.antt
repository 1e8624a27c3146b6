-- What holds of what a body answers, where it ends without a fault. And what an operation answers: nothing, or a value of this kind.
use Rattle.std.specs.Prelude.{◌≡◌, true, Option, None, Some, List, Result, Ok, Err}
use Rattle.ruby_value.specs.declared.fault.Fault.{Fault}
use Rattle.ruby_value.specs.declared.kind.Kind.{Kind}
use Rattle.ruby_value.specs.declared.value.Value.{Value}
use Rattle.acts.specs.Prelude.{Done}
use Rattle.action_code.specs.declared.program.TableDecl.{TableDecl}
use Rattle.code_meaning.specs.Kinds.{is_of_kind}

abbrev pub HoldsOfAnswer : {A : Type 0} → (A → Type 0) → Result (Done A) Fault → Type 0
HoldsOfAnswer R (Ok d) = R d.value
HoldsOfAnswer R (Err f) = Unit {0}

abbrev pub IsAnswer : List TableDecl → Option Kind → Option Value → Type 0
IsAnswer tables None None = Unit {0}
IsAnswer tables (Some k) (Some v) = is_of_kind tables k v ≡ true
IsAnswer tables _ _ = ⊥
