-- What the field of a request stands for.
use Rattle.std.proofs.Common.{◌≡◌, Option, None, Some, refl}
use Rattle.std.specs.Option.{option_map}
use Rattle.slicc_plan.specs.declared.built_in.BuiltInType.{BuiltInType}
use Rattle.slicc_plan.specs.Prelude.{NamedType, value, built_in}

pub mapped : (o : Option NamedType) → option_map (λ (b : BuiltInType). value (built_in b)) (option_map (λ (f : NamedType). f.meaning) o) ≡ option_map (λ (f : NamedType). value (built_in f.meaning)) o
mapped None = refl
mapped (Some f) = refl
