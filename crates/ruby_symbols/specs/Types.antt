-- The types of a protocol by name, as a machine sees them: first its own, then those that are built in or declared right in the
-- protocol. A declaration of a machine hides them also where it declares no type, but in an accepted protocol no body names a
-- hidden type, so that is not looked at.
use Rattle.std.specs.Prelude.{ℕ, ◌==◌, ◌&&◌, Bool, true, false, cond, Option, None, Some, List, codes}
use Rattle.std.specs.Option.{option_or}
use Rattle.std.specs.Str.{bytes_eq}
use Rattle.ruby_symbols.specs.declared.symbols.Symbols.{Symbols}
use Rattle.ruby_symbols.specs.declared.types.EnumerationSymbol.{EnumerationSymbol}
use Rattle.ruby_symbols.specs.declared.types.FieldSymbol.{FieldSymbol}
use Rattle.ruby_symbols.specs.declared.types.StructureSymbol.{StructureSymbol}
use Rattle.ruby_symbols.specs.Numbers.{number_of}

-- it is declared by this machine, or by none
abbrev pub is_owner : Option ℕ → Option ℕ → Bool
is_owner None None = true
is_owner (Some m) (Some n) = m == n
is_owner _ _ = false

abbrev pub enumeration_of : Symbols → Option ℕ → List ℕ → Option ℕ
enumeration_of symbols owner text =
    number_of (λ (e : EnumerationSymbol). is_owner e.machine owner && bytes_eq e.name text) symbols.enumerations

abbrev pub structure_of : Symbols → Option ℕ → List ℕ → Option ℕ
structure_of symbols owner text =
    number_of (λ (s : StructureSymbol). is_owner s.machine owner && bytes_eq s.name text) symbols.structures

-- as the machine of this number sees them
abbrev pub enumeration_named : Symbols → ℕ → List ℕ → Option ℕ
enumeration_named symbols machine text =
    option_or (enumeration_of symbols (Some machine) text) (enumeration_of symbols None text)

abbrev pub structure_named : Symbols → ℕ → List ℕ → Option ℕ
structure_named symbols machine text =
    option_or (structure_of symbols (Some machine) text) (structure_of symbols None text)

-- `RubyRequest`, the messages of drivers
abbrev pub request : Symbols → Option ℕ
request symbols = structure_of symbols None (codes "RubyRequest")

-- the number of a member of an enumeration
abbrev pub member_named : EnumerationSymbol → List ℕ → Option ℕ
member_named e text = number_of (λ member. bytes_eq member text) e.members

-- the number of a field of a structure, or of a value or a reference among a machine's
abbrev pub field_named : List FieldSymbol → List ℕ → Option ℕ
field_named fields text = number_of (λ (f : FieldSymbol). bytes_eq f.name text) fields
