-- No field of a machine's tables or of its messages is a reference.
use Rattle.std.proofs.Common.{◌≡◌, ◌+◌, ℕ, Bool, true, false, cond, Option, None, Some, List, [], ◌∷◌, All, map, flat_map, refl}
use Rattle.std.specs.Option.{option_map}
use Rattle.std.specs.Prelude.{option_and_then}
use Rattle.std.proofs.lemmas.List.Elements.{All-append, All-cons, All-nil, All-map, All-push}
use Rattle.ruby_value.specs.declared.kind.Kind.{Kind}
use Rattle.ruby_value.specs.declared.kind.Kind.TheVariants as kind
use Rattle.ruby_value.specs.declared.setup.BufferSetup.{BufferSetup}
use Rattle.ruby_value.specs.declared.setup.Sizes.{Sizes}
use Rattle.ruby_value.specs.declared.setup.TableSetup.{TableSetup}
use Rattle.ruby_value.specs.declared.setup.TableSize.{TableSize}
use Rattle.ruby_value.specs.declared.value.Value.{Value}
use Rattle.ruby_value.specs.Prelude.{is_reference}
use Rattle.ruby_symbols.specs.declared.machine.TableSort.{TableSort}
use Rattle.ruby_symbols.specs.declared.types.FieldSymbol.{FieldSymbol}
use Rattle.slicc_ast.specs.declared.tree.declaration.Pairs.{Pairs}
use Rattle.slicc_ast.specs.declared.tree.declaration.Structure.{Structure}
use Rattle.slicc_ast.specs.declared.tree.item.Tree.{Tree}
use Rattle.slicc_ast.specs.declared.tree.machine.Machine.{Machine}
use Rattle.slicc_ast.specs.declared.tree.machine.Literal.{Literal}
use Rattle.slicc_plan.specs.declared.built_in.BuiltInType.{BuiltInType}
use Rattle.slicc_plan.specs.declared.built_in.BuiltInType.TheVariants.{Int, Cycles, Tick, Bool as Boolean, Address, MachineId, MachineType, NetDest, DataBlock, AccessPermission, RequestType, MessageSize, Request, AbstractEntry, Void, Cache, Directory, TbeTable, Sequencer, Buffer}
use Rattle.slicc_plan.specs.Prelude.{BufferIn, buffer_in, NamedType, is_same_type, request_fields, Declaration, machine, states, parameter, object, action, function, symbol, state, member as member_declaration, formal, local, Scope, within, machine_declarations, field_type, field_kind, field_kinds, message_kinds, request_kinds, structure_fields, value_in, value_of_kind, values_of, attributes_of, buffer_by, kinds_on, parameter_table, range_values, setup_in, table_of_lines, table_size, tables_from, line_structure, tables_of, built_in_kind, declared_number, default_member, kind_or_bool, plain_kind, KnownType, built_in, enumerated, structured, type_in}
use Rattle.slicc_plan.specs.Declarations.{enumeration, structure, out_port, in_port}
use Rattle.slicc_plan.specs.MachineValues.{value_of_type}
use Rattle.slicc_plan.specs.MessageTypes.{message_type}

abbrev IsPlain : Kind → Type 0
IsPlain k = is_reference k ≡ false

pub all_flat : {X Y : Type 0} (P : Y → Type 0) (f : X → List Y) → ((x : X) → All P (f x)) → (xs : List X) → All P (flat_map f xs)
all_flat P f h [] = All-nil P
all_flat P f h (x ∷ xs) = All-append P (f x) (flat_map f xs) (h x) (all_flat P f h xs)

pub all_mapped : {X Y : Type 0} (P : Y → Type 0) (f : X → Y) → ((x : X) → P (f x)) → (xs : List X) → All P (map f xs)
all_mapped P f h [] = All-nil P
all_mapped P f h (x ∷ xs) = All-cons P (f x) (map f xs) (h x) (all_mapped P f h xs)

-- kinds

pub built_in_plain : (b : BuiltInType) → IsPlain (kind_or_bool (built_in_kind b))
built_in_plain Int = refl
built_in_plain Cycles = refl
built_in_plain Tick = refl
built_in_plain Boolean = refl
built_in_plain Address = refl
built_in_plain MachineId = refl
built_in_plain MachineType = refl
built_in_plain NetDest = refl
built_in_plain DataBlock = refl
built_in_plain AccessPermission = refl
built_in_plain RequestType = refl
built_in_plain MessageSize = refl
built_in_plain Request = refl
built_in_plain AbstractEntry = refl
built_in_plain Void = refl
built_in_plain Cache = refl
built_in_plain Directory = refl
built_in_plain TbeTable = refl
built_in_plain Sequencer = refl
built_in_plain Buffer = refl

member_plain : (member : ℕ) (number : Option ℕ) → IsPlain (kind_or_bool (option_map (λ n. kind.Enum n member) number))
member_plain member None = refl
member_plain member (Some n) = refl

kind_plain : (trees : List Tree) (t : KnownType) → IsPlain (kind_or_bool (plain_kind trees t))
kind_plain trees (built_in b) = built_in_plain b
kind_plain trees (enumerated scope text members) =
    member_plain (default_member trees (enumerated scope text members)) (declared_number trees (enumerated scope text members))
kind_plain trees (structured scope s) = refl

pub known_plain : (trees : List Tree) (t : Option KnownType) → IsPlain (kind_or_bool (option_and_then (plain_kind trees) t))
known_plain trees None = refl
known_plain trees (Some t) = kind_plain trees t

fields_plain : (trees : List Tree) (scope : Scope) (s : Structure) → All IsPlain (field_kinds trees scope s)
fields_plain trees scope s =
    all_mapped IsPlain (field_kind trees) (λ f. known_plain trees (field_type trees f)) (structure_fields scope s)

-- messages

request_plain : All IsPlain request_kinds
request_plain =
    all_mapped IsPlain (λ (f : NamedType). kind_or_bool (built_in_kind f.meaning)) (λ f. built_in_plain f.meaning) request_fields

either_plain : (v : Bool) → All IsPlain (cond v request_kinds [])
either_plain true = request_plain
either_plain false = All-nil IsPlain

message_plain : (trees : List Tree) (t : KnownType) → All IsPlain (message_kinds trees t)
message_plain trees (built_in b) = either_plain (is_same_type b Request)
message_plain trees (enumerated scope text members) = All-nil IsPlain
message_plain trees (structured scope s) = fields_plain trees scope s

on_plain : (trees : List Tree) (t : Option KnownType) → All IsPlain (kinds_on trees t)
on_plain trees None = All-nil IsPlain
on_plain trees (Some t) = message_plain trees t

abbrev HasPlain : BufferSetup → Type 0
HasPlain b = All IsPlain b.kinds

buffer_plain : (trees : List Tree) (number : ℕ) (pairs : Option Pairs) (b : Option BufferIn) → All HasPlain (buffer_by trees number pairs b)
buffer_plain trees number pairs None = All-nil HasPlain
buffer_plain trees number pairs (Some b) =
    All-cons HasPlain _ [] (on_plain trees (message_type trees number b)) (All-nil HasPlain)

pub buffers_plain : (trees : List Tree) (number : ℕ) (sizes : Sizes) (m : Machine) → All (λ (b : BufferSetup). All (λ (k : Kind). is_reference k ≡ false) b.kinds) (setup_in trees number sizes m).buffers
buffers_plain trees number sizes m =
    all_flat HasPlain (λ (d : Declaration). buffer_by trees number (attributes_of d) (buffer_in trees m d)) (λ d. buffer_plain trees number (attributes_of d) (buffer_in trees m d)) (machine_declarations m)

-- tables

abbrev LinesPlain : TableSetup → Type 0
LinesPlain s = All IsPlain s.kinds

abbrev ValuePlain : FieldSymbol → Type 0
ValuePlain f = IsPlain f.kind

lines_plain : (trees : List Tree) (m : Machine) (places : TableSize) (s : Option Structure) → LinesPlain (table_of_lines trees m places s)
lines_plain trees m places None = All-nil IsPlain
lines_plain trees m places (Some s) = fields_plain trees (within m) s

tables_plain : (trees : List Tree) (m : Machine) (sizes : Sizes) (number : ℕ) (ts : List TableSort) → All LinesPlain (tables_from trees m sizes number ts)
tables_plain trees m sizes number [] = All-nil LinesPlain
tables_plain trees m sizes number (t ∷ ts) =
    All-cons LinesPlain _ _ (lines_plain trees m (table_size sizes number t) (line_structure m t)) (tables_plain trees m sizes (number + 1) ts)

value_plain : (text : List ℕ) (t : Option KnownType) (l : Option Literal) (k : Option Kind) → IsPlain (kind_or_bool k) → All ValuePlain (value_of_kind text t l k)
value_plain text t l None h = All-nil ValuePlain
value_plain text t l (Some k) h = All-cons ValuePlain _ [] h (All-nil ValuePlain)

known_value_plain : (trees : List Tree) (text : List ℕ) (t : Option KnownType) (l : Option Literal) → All ValuePlain (value_of_type trees text t l)
known_value_plain trees text t l = value_plain text t l (option_and_then (plain_kind trees) t) (known_plain trees t)

declared_plain : (trees : List Tree) (m : Machine) (d : Declaration) → All ValuePlain (value_in trees m d)
declared_plain trees m (parameter p) = known_value_plain trees p.name.text (type_in trees (within m) p.kind.text) p.literal
declared_plain trees m (object o) = known_value_plain trees o.name.text (type_in trees (within m) o.kind.text) None
declared_plain trees m (machine d) = All-nil ValuePlain
declared_plain trees m (enumeration d) = All-nil ValuePlain
declared_plain trees m (structure d) = All-nil ValuePlain
declared_plain trees m (states d) = All-nil ValuePlain
declared_plain trees m (out_port d) = All-nil ValuePlain
declared_plain trees m (in_port d) = All-nil ValuePlain
declared_plain trees m (action d) = All-nil ValuePlain
declared_plain trees m (function d) = All-nil ValuePlain
declared_plain trees m (symbol d) = All-nil ValuePlain
declared_plain trees m (state d) = All-nil ValuePlain
declared_plain trees m (member_declaration d) = All-nil ValuePlain
declared_plain trees m (formal d) = All-nil ValuePlain
declared_plain trees m (local kind called span) = All-nil ValuePlain

pub values_plain : (trees : List Tree) (m : Machine) → All (λ (f : FieldSymbol). is_reference f.kind ≡ false) (values_of trees m)
values_plain trees m = all_flat ValuePlain (value_in trees m) (declared_plain trees m) (machine_declarations m)

parameter_table_plain : (trees : List Tree) (number : ℕ) (m : Machine) (sizes : Sizes) → LinesPlain (parameter_table trees number m sizes)
parameter_table_plain trees number m sizes =
    All-append IsPlain (map (λ (f : FieldSymbol). f.kind) (values_of trees m)) (map (λ (v : Value). kind.Int) (range_values sizes)) (All-map IsPlain (λ (f : FieldSymbol). f.kind) (values_of trees m) (values_plain trees m)) (all_mapped IsPlain (λ (v : Value). kind.Int) (λ v. refl) (range_values sizes))

pub all_tables_plain : (trees : List Tree) (number : ℕ) (sizes : Sizes) (m : Machine) → All (λ (s : TableSetup). All (λ (k : Kind). is_reference k ≡ false) s.kinds) (setup_in trees number sizes m).tables
all_tables_plain trees number sizes m =
    All-push LinesPlain (tables_from trees m sizes 0 (tables_of trees m)) (parameter_table trees number m sizes) (tables_plain trees m sizes 0 (tables_of trees m)) (parameter_table_plain trees number m sizes)
