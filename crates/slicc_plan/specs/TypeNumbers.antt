-- The numbers of a protocol's enumerations and structures, and the kinds of values. The enumerations that are built in come
-- first; then those that are declared, state declarations among them, in the order of reading and of the text. Structures are
-- numbered in that order too, then comes `RubyRequest`, and then, machine by machine, what the parameters of a machine are kept
-- in. External structures have no number. All these numbers are this project's own.
use Rattle.std.specs.Prelude.{ℕ, ◌+◌, ◌||◌, Bool, false, cond, Option, None, Some, List, [], ◌∷◌, filter, find, flat_map, length, map, option_and_then, position, unwrap_or, codes}
use Rattle.std.specs.List.{list_any}
use Rattle.std.specs.Option.{option_map}
use Rattle.ruby_value.specs.declared.kind.Kind.{Kind}
use Rattle.ruby_value.specs.declared.kind.Kind.TheVariants as kind
use Rattle.slicc_ast.specs.declared.tree.declaration.PairValue.{PairValue}
use Rattle.slicc_ast.specs.declared.tree.declaration.State.{State}
use Rattle.slicc_ast.specs.declared.tree.declaration.Structure.{Structure}
use Rattle.slicc_ast.specs.declared.tree.declaration.Symbol.{Symbol}
use Rattle.slicc_ast.specs.declared.tree.item.Tree.{Tree}
use Rattle.slicc_ast.specs.declared.tree.machine.Machine.{Machine}
use Rattle.slicc_plan.specs.declared.built_in.BuiltInType.{BuiltInType}
use Rattle.slicc_plan.specs.declared.built_in.BuiltInType.TheVariants.{Int, Cycles, Tick, Bool as Boolean, Address, MachineId, MachineType, NetDest, DataBlock, AccessPermission, RequestType, MessageSize, Request}
use Rattle.slicc_plan.specs.Attributes.{Attribute, first_attribute, is_word}
use Rattle.slicc_plan.specs.Buffers.{is_same_known}
use Rattle.slicc_plan.specs.Declarations.{Declaration, machine, enumeration, states, Scope, everywhere, within, global_declarations, machine_declarations}
use Rattle.slicc_plan.specs.Limits.{built_in_enumerations, is_counted_structure, is_enumeration}
use Rattle.slicc_plan.specs.Machines.{directory_structure, entry_structure, tbe_structure}
use Rattle.slicc_plan.specs.Types.{KnownType, built_in, enumerated, structured, declared_type}
use Rattle.slicc_plan.specs.Values.{default_names}

-- a declaration, and where it is made
pub record ScopedDeclaration : Type 0 where
  pub scope : Scope
  pub declaration : Declaration

abbrev pub made_in : Scope → Declaration → ScopedDeclaration
made_in scope d = record { scope = scope; declaration = d }

abbrev pub made_with_its_own : Declaration → List ScopedDeclaration
made_with_its_own (machine m) = made_in everywhere (machine m) ∷ map (made_in (within m)) (machine_declarations m)
made_with_its_own d = made_in everywhere d ∷ []

-- what is declared right in the protocol and in its machines, in the order of reading and of the text
abbrev pub scoped_declarations : List Tree → List ScopedDeclaration
scoped_declarations trees = flat_map made_with_its_own (global_declarations trees)

abbrev pub declared_enumerations : List Tree → List ScopedDeclaration
declared_enumerations trees = filter (λ (d : ScopedDeclaration). is_enumeration d.declaration) (scoped_declarations trees)

abbrev pub declared_structures : List Tree → List ScopedDeclaration
declared_structures trees =
    filter (λ (d : ScopedDeclaration). is_counted_structure d.declaration) (scoped_declarations trees)

abbrev pub is_known_as : KnownType → Option KnownType → Bool
is_known_as t None = false
is_known_as t (Some u) = is_same_known t u

-- the declaration declares this type
abbrev pub declares : KnownType → ScopedDeclaration → Bool
declares t d = is_known_as t (declared_type d.scope d.declaration)

-- Numbers.

abbrev pub built_in_number : BuiltInType → Option ℕ
built_in_number MachineType = Some 0
built_in_number AccessPermission = Some 1
built_in_number RequestType = Some 2
built_in_number MessageSize = Some 3
built_in_number _ = None

abbrev pub declared_number : List Tree → KnownType → Option ℕ
declared_number trees t = option_map (λ n. built_in_enumerations + n) (position (declares t) (declared_enumerations trees))

abbrev pub enumeration_number : List Tree → KnownType → Option ℕ
enumeration_number trees (built_in b) = built_in_number b
enumeration_number trees (enumerated scope text members) = declared_number trees (enumerated scope text members)
enumeration_number trees (structured scope s) = None

abbrev pub request_number : List Tree → BuiltInType → Option ℕ
request_number trees Request = Some (length (declared_structures trees))
request_number trees _ = None

abbrev pub structure_number : List Tree → KnownType → Option ℕ
structure_number trees (built_in b) = request_number trees b
structure_number trees (enumerated scope text members) = None
structure_number trees (structured scope s) = position (declares (structured scope s)) (declared_structures trees)

-- of the parameters of the machine of this number
abbrev pub parameters_number : List Tree → ℕ → ℕ
parameters_number trees number = length (declared_structures trees) + 1 + number

-- in the place of the number of a structure that a machine doesn't have
abbrev pub no_structure : ℕ
no_structure = 65535

-- Default members. Of several members that a default could name the first is meant.

abbrev pub is_default_of : Scope → List ℕ → PairValue → List ℕ → Bool
is_default_of scope text value member = list_any (λ word. is_word word value) (default_names scope text (member ∷ []))

-- the number of the member that a default names, of an enumeration of this name
abbrev pub member_number : Scope → List ℕ → List (List ℕ) → PairValue → Option ℕ
member_number scope text members value = position (is_default_of scope text value) members

abbrev pub default_number : Scope → List ℕ → List (List ℕ) → Option Attribute → ℕ
default_number scope text members None = 0
default_number scope text members (Some a) = unwrap_or (member_number scope text members a.value) 0

-- the default member of an enumeration or of a state declaration: the one that it names, else its first
abbrev pub own_default : Scope → Declaration → ℕ
own_default scope (enumeration e) =
    default_number scope e.name.text (map (λ (s : Symbol). s.name.text) e.members)
    (first_attribute (codes "default") e.pairs)
own_default scope (states d) =
    default_number scope d.name.text (map (λ (s : State). s.name.text) d.members)
    (first_attribute (codes "default") d.pairs)
own_default scope _ = 0

abbrev pub default_found : Option ScopedDeclaration → ℕ
default_found None = 0
default_found (Some d) = own_default d.scope d.declaration

abbrev pub default_member : List Tree → KnownType → ℕ
default_member trees t = default_found (find (declares t) (declared_enumerations trees))

-- Kinds of values that are no references.

abbrev pub built_in_kind : BuiltInType → Option Kind
built_in_kind Int = Some kind.Int
built_in_kind Cycles = Some kind.Int
built_in_kind Tick = Some kind.Int
built_in_kind Boolean = Some kind.Bool
built_in_kind Address = Some kind.Addr
built_in_kind MachineId = Some kind.Machine
built_in_kind MachineType = Some (kind.Enum 0 0)
built_in_kind NetDest = Some kind.Dest
built_in_kind DataBlock = Some kind.Block
built_in_kind AccessPermission = Some (kind.Enum 1 0)
built_in_kind RequestType = Some (kind.Enum 2 0)
built_in_kind MessageSize = Some (kind.Enum 3 0)
built_in_kind _ = None

abbrev pub plain_kind : List Tree → KnownType → Option Kind
plain_kind trees (built_in b) = built_in_kind b
plain_kind trees (enumerated scope text members) =
    option_map (λ number. kind.Enum number (default_member trees (enumerated scope text members)))
    (declared_number trees (enumerated scope text members))
plain_kind trees (structured scope s) = None

-- the same where there is no kind, as no field of an accepted protocol has it
abbrev pub kind_or_bool : Option Kind → Kind
kind_or_bool k = unwrap_or k kind.Bool

-- Kinds of all values that a machine's locals, formals and results may have. A value of its entry type, of its directories'
-- entry or of its TBE type is a reference to a line.

abbrev pub is_its : Machine → Scope → Structure → Option Structure → Bool
is_its m scope s None = false
is_its m scope s (Some own) = is_same_known (structured scope s) (structured (within m) own)

abbrev pub reference_kind : Machine → Scope → Structure → ℕ → Option Kind
reference_kind m scope s number =
    cond (is_its m scope s (tbe_structure m)) (Some (kind.Tbe number))
    (cond (is_its m scope s (entry_structure m) || is_its m scope s (directory_structure m)) (Some (kind.Entry number)) None)

abbrev pub value_kind : List Tree → Machine → KnownType → Option Kind
value_kind trees m (structured scope s) =
    option_and_then (reference_kind m scope s) (structure_number trees (structured scope s))
value_kind trees m (built_in b) = built_in_kind b
value_kind trees m (enumerated scope text members) = plain_kind trees (enumerated scope text members)
