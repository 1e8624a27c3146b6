-- There is more of something than a protocol may have. That is told at the first declaration beyond the limit. All limits are
-- this project's own. Built-in enumerations count with those that are declared; the built-in structure and external ones don't
-- count. Prototypes count as functions, and functions that aren't looked at don't.
use Rattle.std.specs.Prelude.{ℕ, ◌-◌, Bool, true, false, not, cond, Option, None, Some, List, [], ◌∷◌, ◌++◌, flat_map, map, codes, filter, find}
use Rattle.std.specs.List.{slice_get}
use Rattle.slicc_ast.specs.declared.tree.item.Tree.{Tree}
use Rattle.slicc_ast.specs.declared.tree.machine.Machine.{Machine}
use Rattle.slicc_ast.specs.declared.tree.statement.Block.{Block}
use Rattle.slicc_ast.specs.declared.tree.declaration.Function.TheVariants.{Plain, Skipped}
use Rattle.slicc_ast.specs.declared.tree.declaration.Member.TheVariants.{Field, Method, Skipped as SkippedMember}
use Rattle.slicc_plan.specs.declared.broken.Broken.{Broken}
use Rattle.slicc_plan.specs.declared.broken.Rule.TheVariants.{LimitPassed}
use Rattle.slicc_plan.specs.declared.built_in.BuiltInType.TheVariants.{Sequencer}
use Rattle.slicc_plan.specs.Blocks.{body_locals}
use Rattle.slicc_plan.specs.Declarations.{Declaration, machine, enumeration, structure, states, parameter, object, out_port, in_port, action, function, symbol, state, member, Scope, everywhere, within, declared_in, global_declarations, is_external, is_named, machine_declarations, place_of, wide_scopes}
use Rattle.slicc_plan.specs.Scopes.{machine_bodies}
use Rattle.slicc_plan.specs.Types.{is_built_in, type_in}

abbrev pub most_machines : ℕ
most_machines = 16

-- of a machine's states, events, actions and functions, of each
abbrev pub most_of_each : ℕ
most_of_each = 256

-- of a machine's ports, those in and those out together
abbrev pub most_ports : ℕ
most_ports = 32

-- of a machine's parameters and objects together
abbrev pub most_objects : ℕ
most_objects = 64

abbrev pub most_sequencers : ℕ
most_sequencers = 1

-- of a protocol's enumerations and state declarations, and how many of them are built in
abbrev pub most_enumerations : ℕ
most_enumerations = 16384

abbrev pub built_in_enumerations : ℕ
built_in_enumerations = 4

-- of the members of one of them
abbrev pub most_members : ℕ
most_members = 65535

-- of a protocol's structures
abbrev pub most_structures : ℕ
most_structures = 16384

-- of a structure's fields
abbrev pub most_fields : ℕ
most_fields = 64

-- of a body's locals
abbrev pub most_locals : ℕ
most_locals = 64

abbrev pub limit_passed : Option Declaration → List Broken
limit_passed None = []
limit_passed (Some d) = record { rule = LimitPassed; machine = 0; place = place_of d; other = None } ∷ []

-- the declaration right after so many
abbrev pub beyond : ℕ → List Declaration → List Broken
beyond limit declarations = limit_passed (slice_get declarations limit)

-- What is counted.

abbrev pub is_machine : Declaration → Bool
is_machine (machine m) = true
is_machine _ = false

abbrev pub is_enumeration : Declaration → Bool
is_enumeration (enumeration e) = true
is_enumeration (states s) = true
is_enumeration _ = false

abbrev pub is_counted_structure : Declaration → Bool
is_counted_structure (structure s) = not (is_external s)
is_counted_structure _ = false

abbrev pub is_action : Declaration → Bool
is_action (action a) = true
is_action _ = false

abbrev pub is_counted_function : Declaration → Bool
is_counted_function (function (Plain kind called formals attributes body span)) = true
is_counted_function (function (Skipped s)) = false
is_counted_function _ = false

abbrev pub is_port : Declaration → Bool
is_port (out_port p) = true
is_port (in_port p) = true
is_port _ = false

abbrev pub is_object : Declaration → Bool
is_object (parameter p) = true
is_object (object o) = true
is_object _ = false

abbrev pub is_sequencer : List Tree → Machine → Declaration → Bool
is_sequencer trees m (parameter p) = is_built_in Sequencer (type_in trees (within m) p.kind.text)
is_sequencer trees m (object o) = is_built_in Sequencer (type_in trees (within m) o.kind.text)
is_sequencer trees m _ = false

abbrev pub is_field : Declaration → Bool
is_field (member (Field kind called attributes span)) = true
is_field (member (Method kind called formals attributes span)) = false
is_field (member (SkippedMember s)) = false
is_field _ = false

-- the members of an enumeration or of a state declaration
abbrev pub members_in : Declaration → List Declaration
members_in (enumeration e) = map symbol e.members
members_in (states s) = map state s.members
members_in _ = []

abbrev pub fields_in : Declaration → List Declaration
fields_in (structure s) = cond (is_external s) [] (filter is_field (map member s.members))
fields_in _ = []

-- the first state declaration of a machine, and its enumeration of events
abbrev pub is_states : Declaration → Bool
is_states (states s) = true
is_states _ = false

abbrev pub is_events : Declaration → Bool
is_events (enumeration e) = is_named (codes "Event") (enumeration e)
is_events _ = false

abbrev pub members_of_found : Option Declaration → List Declaration
members_of_found None = []
members_of_found (Some d) = members_in d

abbrev pub state_members : Machine → List Declaration
state_members m = members_of_found (find is_states (machine_declarations m))

abbrev pub event_members : Machine → List Declaration
event_members m = members_of_found (find is_events (machine_declarations m))

-- The limits.

abbrev pub beyond_in_body : Block → List Broken
beyond_in_body b = beyond most_locals (body_locals b)

abbrev pub beyond_in_declaration : Declaration → List Broken
beyond_in_declaration d = beyond most_members (members_in d) ++ beyond most_fields (fields_in d)

abbrev pub beyond_in_machine : List Tree → Machine → List Broken
beyond_in_machine trees m =
    beyond most_of_each (state_members m) ++ beyond most_of_each (event_members m)
    ++ beyond most_of_each (filter is_action (machine_declarations m))
    ++ beyond most_of_each (filter is_counted_function (machine_declarations m))
    ++ beyond most_ports (filter is_port (machine_declarations m))
    ++ beyond most_objects (filter is_object (machine_declarations m))
    ++ beyond most_sequencers (filter (is_sequencer trees m) (machine_declarations m))
    ++ flat_map beyond_in_body (machine_bodies m)

abbrev pub machine_limits : List Tree → Scope → List Broken
machine_limits trees everywhere = []
machine_limits trees (within m) = beyond_in_machine trees m

abbrev pub beyond_in_scope : List Tree → Scope → List Broken
beyond_in_scope trees scope =
    flat_map beyond_in_declaration (declared_in trees scope) ++ machine_limits trees scope

-- a declaration right in the protocol and, of a machine, what it declares
abbrev pub with_its_own : Declaration → List Declaration
with_its_own (machine m) = machine m ∷ machine_declarations m
with_its_own d = d ∷ []

-- what is declared in the protocol and in its machines, in the order of reading and of the text
abbrev pub all_declarations : List Tree → List Declaration
all_declarations trees = flat_map with_its_own (global_declarations trees)

abbrev pub limits_passed : List Tree → List Broken
limits_passed trees =
    beyond most_machines (filter is_machine (global_declarations trees))
    ++ beyond (most_enumerations - built_in_enumerations) (filter is_enumeration (all_declarations trees))
    ++ beyond most_structures (filter is_counted_structure (all_declarations trees))
    ++ flat_map (beyond_in_scope trees) (wide_scopes trees)
