-- What a machine of a protocol is to its controllers, by its number and the sizes that a topology sets. After its tables of
-- lines comes that of its values, its parameters and objects, and its buffers are those of type `MessageBuffer`, numbered from 0
-- in the order of the text. Without a size that is set a cache has 64 sets of 4 ways.
use Rattle.std.specs.Prelude.{ℕ, ◌≡◌, ◌≤◌, ◌*◌, ◌+◌, ◌==◌, All, IfSome, length, Bool, true, false, cond, ℤ, pos, Option, None, Some, List, [], ◌∷◌, ◌++◌, find, flat_map, is_none, map, slice_get, unwrap_or, codes}
use Rattle.std.specs.Option.{option_map}
use Rattle.ruby_value.specs.declared.kind.Kind.{Kind}
use Rattle.ruby_value.specs.declared.kind.Kind.TheVariants as kind
use Rattle.ruby_value.specs.declared.setup.BufferPlace.{BufferPlace}
use Rattle.ruby_value.specs.declared.setup.BufferPlace.TheVariants as place
use Rattle.ruby_value.specs.declared.setup.BufferSetup.{BufferSetup}
use Rattle.ruby_value.specs.declared.setup.MachineSetup.{MachineSetup}
use Rattle.ruby_value.specs.declared.setup.Sizes.{Sizes}
use Rattle.ruby_value.specs.declared.setup.TableSetup.{TableSetup}
use Rattle.ruby_value.specs.declared.setup.TableSize.{TableSize}
use Rattle.ruby_value.specs.declared.setup.TableSize.TheVariants as size
use Rattle.ruby_value.specs.declared.value.Value.{Value}
use Rattle.ruby_value.specs.declared.value.Value.TheVariants as value
use Rattle.ruby_symbols.specs.declared.machine.TableSort.{TableSort}
use Rattle.ruby_symbols.specs.declared.machine.TableSort.TheVariants as sort
use Rattle.ruby_symbols.specs.declared.types.FieldSymbol.{FieldSymbol}
use Rattle.slicc_ast.specs.declared.tree.declaration.Pairs.{Pairs}
use Rattle.slicc_ast.specs.declared.tree.declaration.Structure.{Structure}
use Rattle.slicc_ast.specs.declared.tree.item.Tree.{Tree}
use Rattle.slicc_ast.specs.declared.tree.machine.Machine.{Machine}
use Rattle.slicc_plan.specs.Attributes.{has_attribute}
use Rattle.slicc_plan.specs.Buffers.{BufferIn, Place, own, to_network, from_network, buffer_in}
use Rattle.slicc_plan.specs.Declarations.{Declaration, parameter, object, within, machine_declarations, machines_of}
use Rattle.slicc_plan.specs.InitialFields.{field_kinds, initial_fields, message_kinds}
use Rattle.slicc_plan.specs.Limits.{is_states}
use Rattle.slicc_plan.specs.MachineValues.{values_of}
use Rattle.slicc_plan.specs.Machines.{function_named}
use Rattle.slicc_plan.specs.MessageTypes.{message_type, network_type, receivers_field}
use Rattle.slicc_plan.specs.Networks.{has_sequencer}
use Rattle.slicc_plan.specs.Tables.{line_structure, tables_of}
use Rattle.slicc_plan.specs.TypeNumbers.{no_structure, own_default, parameters_number, structure_number}
use Rattle.slicc_plan.specs.Types.{KnownType, structured}

-- Tables of lines.

abbrev pub cache_size : Option (ℕ × ℕ × ℕ) → TableSize
cache_size None = size.Cache 64 4
cache_size (Some (number, sets, ways)) = size.Cache sets ways

abbrev pub tbe_size : ℕ → Option (ℕ × ℕ) → TableSize
tbe_size written None = size.Tbe written
tbe_size written (Some (number, entries)) = size.Tbe entries

-- the table has room for a line, and for no more than the limits, which are this project's own
abbrev pub HasRoom : TableSize → Type 0
HasRoom (size.Cache sets ways) = (1 ≤ sets) × (1 ≤ ways) × (sets * ways ≤ 65536)
HasRoom size.Directory = Unit {0}
HasRoom (size.Tbe entries) = (1 ≤ entries) × (entries ≤ 256)
HasRoom size.Parameters = Unit {0}

-- of the table of this number
abbrev pub table_size : Sizes → ℕ → TableSort → TableSize
table_size sizes number sort.Cache = cache_size (find (λ (c : ℕ × ℕ × ℕ). c.0 == number) sizes.caches)
table_size sizes number sort.Directory = size.Directory
table_size sizes number (sort.Tbe written) = tbe_size written (find (λ (t : ℕ × ℕ). t.0 == number) sizes.tbes)

-- a machine without the structure has no lines of it, and the table no fields
abbrev pub table_of_lines : List Tree → Machine → TableSize → Option Structure → TableSetup
table_of_lines trees m places None =
    record { size = places; structure = no_structure; kinds = []; initial = [] }
table_of_lines trees m places (Some s) =
    record {
      size = places;
      structure = unwrap_or (structure_number trees (structured (within m) s)) no_structure;
      kinds = field_kinds trees (within m) s;
      initial = initial_fields trees (within m) s;
    }

abbrev pub table_setup : List Tree → Machine → Sizes → ℕ → TableSort → TableSetup
table_setup trees m sizes number sort = table_of_lines trees m (table_size sizes number sort) (line_structure m sort)

abbrev pub is_parameters : TableSize → Bool
is_parameters size.Parameters = true
is_parameters _ = false

-- of these tables, which are numbered from here on
abbrev pub tables_from : List Tree → Machine → Sizes → ℕ → List TableSort → List TableSetup
tables_from trees m sizes number [] = []
tables_from trees m sizes number (t ∷ ts) =
    table_setup trees m sizes number t ∷ tables_from trees m sizes (number + 1) ts

-- The values of a machine, and after them the ranges of all machines.

-- a topology sets numbers alone
abbrev pub set_value : Kind → Value → Option (ℕ × ℤ) → Value
set_value kind.Int v (Some (number, n)) = value.Int n
set_value k v set = v

-- of the value whose field has this number
abbrev pub opening_value : Sizes → ℕ → FieldSymbol → Value
opening_value sizes number v = set_value v.kind v.initial (find (λ (s : ℕ × ℤ). s.0 == number) sizes.parameters)

abbrev pub values_from : Sizes → ℕ → List FieldSymbol → List Value
values_from sizes number [] = []
values_from sizes number (v ∷ vs) = opening_value sizes number v ∷ values_from sizes (number + 1) vs

-- for each machine its first controller's number and how many controllers it has
abbrev pub range_values : Sizes → List Value
range_values sizes = flat_map (λ (r : ℕ × ℕ). value.Int (pos r.0) ∷ value.Int (pos r.1) ∷ []) sizes.machines

abbrev pub parameter_table : List Tree → ℕ → Machine → Sizes → TableSetup
parameter_table trees number m sizes =
    record {
      size = size.Parameters;
      structure = parameters_number trees number;
      kinds = map (λ (v : FieldSymbol). v.kind) (values_of trees m) ++ map (λ (v : Value). kind.Int) (range_values sizes);
      initial = values_from sizes 0 (values_of trees m) ++ range_values sizes;
    }

-- What a topology has to keep for sizes of these trees' machines: caches and TBE tables have room within the limits, and each
-- machine has its controllers.
pub record AreSizesOf (trees : List Tree) (sizes : Sizes) : Type 0 where
  pub caches : All (λ (c : ℕ × ℕ × ℕ). HasRoom (cache_size (Some c))) sizes.caches
  pub tbes : All (λ (t : ℕ × ℕ). HasRoom (tbe_size 16 (Some t))) sizes.tbes
  pub machines : length sizes.machines ≡ length (machines_of trees)

-- Buffers.

abbrev pub attributes_of : Declaration → Option Pairs
attributes_of (parameter p) = Some p.pairs
attributes_of (object o) = Some o.pairs
attributes_of _ = None

abbrev pub is_ordered : Option Pairs → Bool
is_ordered None = false
is_ordered (Some pairs) = has_attribute (codes "ordered") (codes "true") pairs

abbrev pub buffer_place : List Tree → Place → Option KnownType → BufferPlace
buffer_place trees own t = place.Local
buffer_place trees (to_network v) t = place.To v (receivers_field trees t)
buffer_place trees (from_network v) t = place.From v

-- the field that is said to name the receivers is a set of controllers
abbrev pub NamesReceivers : BufferSetup → Type 0
NamesReceivers b = is_set b.place
  where
    is_set : BufferPlace → Type 0
    is_set place.Local = Unit {0}
    is_set (place.To network receivers) = IfSome receivers (λ field. slice_get b.kinds field ≡ Some kind.Dest)
    is_set (place.From network) = Unit {0}

abbrev pub kinds_on : List Tree → Option KnownType → List Kind
kinds_on trees None = []
kinds_on trees (Some t) = message_kinds trees t

-- on a network it has the kinds of that network's messages, and their receivers' field
abbrev pub HasTypeOf : List Tree → BufferSetup → Type 0
HasTypeOf trees b = has_type b.place
  where
    has_type : BufferPlace → Type 0
    has_type place.Local = Unit {0}
    has_type (place.To network receivers) =
        (b.kinds ≡ kinds_on trees (network_type trees network)) × (receivers ≡ receivers_field trees (network_type trees network))
    has_type (place.From network) = b.kinds ≡ kinds_on trees (network_type trees network)

abbrev pub buffer_by : List Tree → ℕ → Option Pairs → Option BufferIn → List BufferSetup
buffer_by trees number pairs None = []
buffer_by trees number pairs (Some b) =
    let t = message_type trees number b in
    record { place = buffer_place trees b.place t; ordered = is_ordered pairs; kinds = kinds_on trees t } ∷ []

abbrev pub buffer_setups : List Tree → ℕ → Machine → List BufferSetup
buffer_setups trees number m =
    flat_map (λ (d : Declaration). buffer_by trees number (attributes_of d) (buffer_in trees m d)) (machine_declarations m)

-- States.

abbrev pub first_state : Machine → Option Declaration → ℕ
first_state m None = 0
first_state m (Some d) = own_default (within m) d

-- the state of a line that was never set, where the machine doesn't say itself how states are read
abbrev pub default_state : Machine → Option ℕ
default_state m =
    cond (is_none (function_named m (codes "getState"))) (Some (first_state m (find is_states (machine_declarations m)))) None

-- of this machine, which has this number
abbrev pub setup_in : List Tree → ℕ → Sizes → Machine → MachineSetup
setup_in trees number sizes m =
    record {
      tables = tables_from trees m sizes 0 (tables_of trees m) ++ parameter_table trees number m sizes ∷ [];
      buffers = buffer_setups trees number m;
      default_state = default_state m;
      has_sequencer = has_sequencer trees m;
    }

-- of the machine of this number, where there is one
abbrev pub setup_of : List Tree → ℕ → Sizes → Option MachineSetup
setup_of trees number sizes = option_map (setup_in trees number sizes) (slice_get (machines_of trees) number)
