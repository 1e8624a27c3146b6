-- What the name of a type stands for. In a machine it is what the machine declares by that name, if it declares it; else, and
-- right in the protocol, it is the built-in type of that name, if there is one, or else what the protocol declares by it. So a
-- declaration of a machine hides one of the protocol and a built-in type, also where it declares no type.
use Rattle.std.specs.Prelude.{ℕ, Bool, true, false, cond, Option, None, Some, List, map}
use Rattle.std.specs.Option.{option_map, option_or}
use Rattle.slicc_ast.specs.declared.tree.item.Tree.{Tree}
use Rattle.slicc_ast.specs.declared.tree.declaration.State.{State}
use Rattle.slicc_ast.specs.declared.tree.declaration.Structure.{Structure}
use Rattle.slicc_ast.specs.declared.tree.declaration.Symbol.{Symbol}
use Rattle.slicc_plan.specs.declared.built_in.BuiltInType.{BuiltInType}
use Rattle.slicc_plan.specs.BuiltIn.{Nature, enumeration as enumeration_nature, structure as structure_nature, built_in_type, is_same_type, is_table_nature, nature_of}
use Rattle.slicc_plan.specs.Declarations.{Declaration, enumeration, structure, states, Scope, everywhere, within, first_named, global_declarations, is_external, machine_declarations}

pub data KnownType : Type 0 where
  built_in : BuiltInType → KnownType
  -- an enumeration or a state declaration: where it is declared, its name and those of its members
  enumerated : Scope → List ℕ → List (List ℕ) → KnownType
  structured : Scope → Structure → KnownType

-- the built-in table of this name
abbrev pub table_or_none : Option BuiltInType → Option BuiltInType
table_or_none None = None
table_or_none (Some b) = cond (is_table_nature (nature_of b)) (Some b) None

abbrev pub table_named : List ℕ → Option BuiltInType
table_named text = table_or_none (built_in_type text)

-- an external structure is the built-in table whose name it bears
abbrev pub external_type : Scope → Structure → Option BuiltInType → KnownType
external_type scope s None = structured scope s
external_type scope s (Some b) = built_in b

abbrev pub structure_type : Scope → Structure → Bool → KnownType
structure_type scope s true = external_type scope s (table_named s.name.text)
structure_type scope s false = structured scope s

-- the type that a declaration declares
abbrev pub declared_type : Scope → Declaration → Option KnownType
declared_type scope (enumeration e) =
    Some (enumerated scope e.name.text (map (λ (s : Symbol). s.name.text) e.members))
declared_type scope (states d) =
    Some (enumerated scope d.name.text (map (λ (s : State). s.name.text) d.members))
declared_type scope (structure s) = Some (structure_type scope s (is_external s))
declared_type scope _ = None

abbrev pub type_of_found : Scope → Option Declaration → Option KnownType
type_of_found scope None = None
type_of_found scope (Some d) = declared_type scope d

abbrev pub global_type : List Tree → List ℕ → Option KnownType
global_type trees text =
    option_or (option_map built_in (built_in_type text))
    (type_of_found everywhere (first_named text (global_declarations trees)))

-- the same in a scope in which that was found by the name
abbrev pub type_where : List Tree → Scope → List ℕ → Option Declaration → Option KnownType
type_where trees scope text None = global_type trees text
type_where trees scope text (Some d) = declared_type scope d

abbrev pub type_in : List Tree → Scope → List ℕ → Option KnownType
type_in trees everywhere text = global_type trees text
type_in trees (within m) text = type_where trees (within m) text (first_named text (machine_declarations m))

-- what kind of thing the type's values are
abbrev pub nature_in : KnownType → Nature
nature_in (built_in b) = nature_of b
nature_in (enumerated scope text members) = enumeration_nature
nature_in (structured scope s) = structure_nature

-- there is a type, and it is this built-in one
abbrev pub is_built_in : BuiltInType → Option KnownType → Bool
is_built_in b None = false
is_built_in b (Some (built_in c)) = is_same_type b c
is_built_in b (Some (enumerated scope text members)) = false
is_built_in b (Some (structured scope s)) = false
