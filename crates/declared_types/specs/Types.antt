-- Types and names, as the definitions of a protocol's meaning see them.
use Rattle.std.specs.Prelude.{ℕ, Option, List, find, map}
use Rattle.std.specs.Option.{option_map}
use Rattle.std.specs.Str.{bytes_eq}
use Rattle.std.specs.Borrow.{Bor}
use Rattle.slicc_plan.specs.declared.built_in.BuiltInType.{BuiltInType}
use Rattle.slicc_plan.specs.BuiltIn as plan
use Rattle.declared_types.specs.declared.built_in_types.NamedType.{NamedType}
use Rattle.declared_types.specs.declared.built_in_types.Nature.{Nature}
use Rattle.declared_types.specs.declared.built_in_types.Nature.TheVariants.{Number, Boolean, Address, Enumeration, OtherValue, Structure, Table, Nothing}

abbrev pub named_of : NamedType → plan.NamedType
named_of t = record { name = t.name.now; meaning = t.meaning }

-- the type of this name among these, where there is one
abbrev pub meaning_in : List plan.NamedType → List ℕ → Option BuiltInType
meaning_in types text =
    option_map (λ (t : plan.NamedType). t.meaning) (find (λ (t : plan.NamedType). bytes_eq t.name text) types)

abbrev pub texts_of : List (Bor (List ℕ)) → List (List ℕ)
texts_of names = map (λ name. name.now) names

abbrev pub as_nature : Nature → plan.Nature
as_nature Number = plan.number
as_nature Boolean = plan.boolean
as_nature Address = plan.address
as_nature Enumeration = plan.enumeration
as_nature OtherValue = plan.other_value
as_nature Structure = plan.structure
as_nature Table = plan.table
as_nature Nothing = plan.nothing
