-- What is there in every protocol without a declaration, calls aside: types, the members of the enumerations among them, and the
-- fields of the structure among them. The names and what they mean are those of gem5's Ruby; that it is these is this project's
-- choice.
use Rattle.std.specs.Prelude.{◌==◌, ℕ, Bool, true, false, Option, List, [], ◌∷◌, find, codes}
use Rattle.std.specs.Option.{option_map}
use Rattle.std.specs.List.{list_any}
use Rattle.std.specs.Str.{bytes_eq}
use Rattle.slicc_plan.specs.declared.built_in.BuiltInType.{BuiltInType}
use Rattle.slicc_plan.specs.declared.built_in.BuiltInType.TheVariants.{Int, Cycles, Tick, Bool as Boolean, Address, MachineId, MachineType, NetDest, DataBlock, AccessPermission, RequestType, MessageSize, Request, AbstractEntry, Void, Cache, Directory, TbeTable, Sequencer, Buffer}

-- the text is one of these names
abbrev pub is_among : List (List ℕ) → List ℕ → Bool
is_among names text = list_any (λ name. bytes_eq name text) names

-- Types.

pub record NamedType : Type 0 where
  pub name : List ℕ
  pub meaning : BuiltInType

abbrev pub named : List ℕ → BuiltInType → NamedType
named name meaning = record { name = name; meaning = meaning }

abbrev pub built_in_types : List NamedType
built_in_types =
    named (codes "int") Int ∷ named (codes "Cycles") Cycles ∷ named (codes "Tick") Tick
    ∷ named (codes "bool") Boolean ∷ named (codes "Addr") Address
    ∷ named (codes "MachineID") MachineId ∷ named (codes "MachineType") MachineType
    ∷ named (codes "NetDest") NetDest ∷ named (codes "DataBlock") DataBlock
    ∷ named (codes "AccessPermission") AccessPermission ∷ named (codes "RubyRequestType") RequestType
    ∷ named (codes "MessageSizeType") MessageSize ∷ named (codes "RubyRequest") Request
    ∷ named (codes "AbstractCacheEntry") AbstractEntry ∷ named (codes "void") Void
    ∷ named (codes "CacheMemory") Cache ∷ named (codes "DirectoryMemory") Directory
    ∷ named (codes "TBETable") TbeTable ∷ named (codes "Sequencer") Sequencer
    ∷ named (codes "MessageBuffer") Buffer ∷ []

-- the type of this name, where there is one
abbrev pub built_in_type : List ℕ → Option BuiltInType
built_in_type text =
    option_map (λ (t : NamedType). t.meaning) (find (λ (t : NamedType). bytes_eq t.name text) built_in_types)

-- the types are told apart by these numbers
abbrev pub type_number : BuiltInType → ℕ
type_number Int = 0
type_number Cycles = 1
type_number Tick = 2
type_number Boolean = 3
type_number Address = 4
type_number MachineId = 5
type_number MachineType = 6
type_number NetDest = 7
type_number DataBlock = 8
type_number AccessPermission = 9
type_number RequestType = 10
type_number MessageSize = 11
type_number Request = 12
type_number AbstractEntry = 13
type_number Void = 14
type_number Cache = 15
type_number Directory = 16
type_number TbeTable = 17
type_number Sequencer = 18
type_number Buffer = 19

abbrev pub is_same_type : BuiltInType → BuiltInType → Bool
is_same_type b c = type_number b == type_number c

-- what kind of thing a type's values are
pub data Nature : Type 0 where
  -- signed numbers of 64 bits
  number : Nature
  boolean : Nature
  address : Nature
  -- the members of the enumeration
  enumeration : Nature
  -- values of other types that fields and locals may have
  other_value : Nature
  structure : Nature
  table : Nature
  nothing : Nature

abbrev pub nature_of : BuiltInType → Nature
nature_of Int = number
nature_of Cycles = number
nature_of Tick = number
nature_of Boolean = boolean
nature_of Address = address
nature_of MachineId = other_value
nature_of MachineType = enumeration
nature_of NetDest = other_value
nature_of DataBlock = other_value
nature_of AccessPermission = enumeration
nature_of RequestType = enumeration
nature_of MessageSize = enumeration
nature_of Request = structure
nature_of AbstractEntry = structure
nature_of Void = nothing
nature_of Cache = table
nature_of Directory = table
nature_of TbeTable = table
nature_of Sequencer = table
nature_of Buffer = table

abbrev pub is_table_nature : Nature → Bool
is_table_nature table = true
is_table_nature number = false
is_table_nature boolean = false
is_table_nature address = false
is_table_nature enumeration = false
is_table_nature other_value = false
is_table_nature structure = false
is_table_nature nothing = false

-- Members.

abbrev pub permissions : List (List ℕ)
permissions =
    codes "Read_Only" ∷ codes "Read_Write" ∷ codes "Invalid" ∷ codes "NotPresent" ∷ codes "Busy"
    ∷ codes "Maybe_Stale" ∷ codes "Backing_Store" ∷ []

abbrev pub request_types : List (List ℕ)
request_types =
    codes "LD" ∷ codes "ST" ∷ codes "IFETCH" ∷ codes "ATOMIC" ∷ codes "Load_Linked"
    ∷ codes "Store_Conditional" ∷ codes "FLUSH" ∷ []

abbrev pub message_sizes : List (List ℕ)
message_sizes =
    codes "Undefined" ∷ codes "Control" ∷ codes "Data" ∷ codes "Request_Control" ∷ codes "Response_Control"
    ∷ codes "Response_Data" ∷ codes "Writeback_Control" ∷ codes "Writeback_Data" ∷ codes "Forwarded_Control"
    ∷ codes "Invalidate_Control" ∷ codes "Unblock_Control" ∷ codes "Multicast_Control"
    ∷ codes "Broadcast_Control" ∷ []

-- the members of a type, none where it is no enumeration; those of `MachineType` are these names of machines
abbrev pub members_of : List (List ℕ) → BuiltInType → List (List ℕ)
members_of machines MachineType = machines
members_of machines AccessPermission = permissions
members_of machines RequestType = request_types
members_of machines MessageSize = message_sizes
members_of machines _ = []

-- the fields of `RubyRequest`, in order
abbrev pub request_fields : List NamedType
request_fields =
    named (codes "LineAddress") Address ∷ named (codes "PhysicalAddress") Address
    ∷ named (codes "Type") RequestType ∷ named (codes "Size") Int ∷ []
