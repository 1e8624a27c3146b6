-- The enumerations and the structures of a protocol as symbols. Each stands at the place that is its number: the enumerations
-- that are built in come before those that are declared, and the structure that is built in after those that are.
use Rattle.std.specs.Prelude.{ℕ, ◌++◌, Option, None, List, [], ◌∷◌, flat_map, map, position, codes}
use Rattle.std.specs.Str.{bytes_eq}
use Rattle.ruby_value.specs.Prelude.{default_value}
use Rattle.ruby_symbols.specs.declared.types.EnumerationSymbol.{EnumerationSymbol}
use Rattle.ruby_symbols.specs.declared.types.FieldSymbol.{FieldSymbol}
use Rattle.ruby_symbols.specs.declared.types.StructureSymbol.{StructureSymbol}
use Rattle.slicc_ast.specs.declared.tree.declaration.Member.{Member}
use Rattle.slicc_ast.specs.declared.tree.declaration.Member.TheVariants.{Field, Method, Skipped}
use Rattle.slicc_ast.specs.declared.tree.declaration.State.{State}
use Rattle.slicc_ast.specs.declared.tree.declaration.Structure.{Structure}
use Rattle.slicc_ast.specs.declared.tree.declaration.Symbol.{Symbol}
use Rattle.slicc_ast.specs.declared.tree.item.Tree.{Tree}
use Rattle.slicc_ast.specs.declared.tree.machine.Machine.{Machine}
use Rattle.slicc_plan.specs.declared.built_in.BuiltInType.{BuiltInType}
use Rattle.slicc_plan.specs.declared.built_in.BuiltInType.TheVariants.{MachineType, AccessPermission, RequestType, MessageSize}
use Rattle.slicc_plan.specs.BuiltIn.{NamedType, members_of, request_fields}
use Rattle.slicc_plan.specs.Declarations.{Declaration, enumeration, structure, states, Scope, everywhere, within, machine_names, machines_of}
use Rattle.slicc_plan.specs.FieldTypes.{FieldIn}
use Rattle.slicc_plan.specs.InitialFields.{field_kind, initial_value}
use Rattle.slicc_plan.specs.TypeNumbers.{ScopedDeclaration, built_in_kind, declared_enumerations, declared_structures, kind_or_bool, own_default}

-- the number of the machine that a declaration is made in, if it is made in one
abbrev pub owner : List Tree → Scope → Option ℕ
owner trees everywhere = None
owner trees (within m) = position (λ (n : Machine). bytes_eq n.name.text m.name.text) (machines_of trees)

-- Enumerations.

abbrev pub built_in_enumeration : List Tree → List ℕ → BuiltInType → EnumerationSymbol
built_in_enumeration trees text b =
    record { name = text; machine = None; members = members_of (machine_names trees) b; default = 0 }

abbrev pub built_in_symbols : List Tree → List EnumerationSymbol
built_in_symbols trees =
    built_in_enumeration trees (codes "MachineType") MachineType
    ∷ built_in_enumeration trees (codes "AccessPermission") AccessPermission
    ∷ built_in_enumeration trees (codes "RubyRequestType") RequestType
    ∷ built_in_enumeration trees (codes "MessageSizeType") MessageSize ∷ []

-- of this machine, with this default member
abbrev pub enumeration_declared : Option ℕ → ℕ → Declaration → List EnumerationSymbol
enumeration_declared machine default (enumeration e) =
    record { name = e.name.text; machine = machine; members = map (λ (s : Symbol). s.name.text) e.members; default = default }
    ∷ []
enumeration_declared machine default (states d) =
    record { name = d.name.text; machine = machine; members = map (λ (s : State). s.name.text) d.members; default = default }
    ∷ []
enumeration_declared machine default _ = []

abbrev pub enumeration_symbol : List Tree → ScopedDeclaration → List EnumerationSymbol
enumeration_symbol trees d =
    enumeration_declared (owner trees d.scope) (own_default d.scope d.declaration) d.declaration

abbrev pub enumeration_symbols : List Tree → List EnumerationSymbol
enumeration_symbols trees = built_in_symbols trees ++ flat_map (enumeration_symbol trees) (declared_enumerations trees)

-- Structures.

abbrev pub field_of_type : List Tree → List ℕ → FieldIn → FieldSymbol
field_of_type trees text f = record { name = text; kind = field_kind trees f; initial = initial_value trees f }

abbrev pub field_symbol : List Tree → Scope → Member → List FieldSymbol
field_symbol trees scope (Field kind called attributes span) =
    field_of_type trees called.text (record { scope = scope; kind = kind; attributes = attributes }) ∷ []
field_symbol trees scope (Method kind called formals attributes span) = []
field_symbol trees scope (Skipped s) = []

abbrev pub field_symbols : List Tree → Scope → Structure → List FieldSymbol
field_symbols trees scope s = flat_map (field_symbol trees scope) s.members

abbrev pub structure_declared : List Tree → Scope → Declaration → List StructureSymbol
structure_declared trees scope (structure s) =
    record { name = s.name.text; machine = owner trees scope; fields = field_symbols trees scope s } ∷ []
structure_declared trees scope _ = []

abbrev pub structure_symbol : List Tree → ScopedDeclaration → List StructureSymbol
structure_symbol trees d = structure_declared trees d.scope d.declaration

-- a field of `RubyRequest`
abbrev pub request_field : NamedType → FieldSymbol
request_field f =
    let k = kind_or_bool (built_in_kind f.meaning) in record { name = f.name; kind = k; initial = default_value k }

abbrev pub request_symbol : StructureSymbol
request_symbol = record { name = codes "RubyRequest"; machine = None; fields = map request_field request_fields }

abbrev pub structure_symbols : List Tree → List StructureSymbol
structure_symbols trees = flat_map (structure_symbol trees) (declared_structures trees) ++ request_symbol ∷ []
