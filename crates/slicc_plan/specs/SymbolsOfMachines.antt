-- A machine of a protocol as symbols: its states and events, what its parameters and objects are, its ports, functions, actions
-- and transitions. All lists are in the order of the text, and their places are the numbers of what stands in them.
use Rattle.std.specs.Prelude.{ℕ, ◌+◌, ◌++◌, cond, Option, None, Some, List, [], ◌∷◌, filter_map, find, flat_map, map, position, slice_get, option_and_then, unwrap_or, codes}
use Rattle.std.specs.Option.{option_map}
use Rattle.std.specs.Str.{bytes_eq}
use Rattle.ruby_value.specs.declared.kind.Kind.{Kind}
use Rattle.ruby_symbols.specs.declared.machine.ActionSymbol.{ActionSymbol}
use Rattle.ruby_symbols.specs.declared.machine.BufferSymbol.{BufferSymbol}
use Rattle.ruby_symbols.specs.declared.machine.FormalSymbol.{FormalSymbol}
use Rattle.ruby_symbols.specs.declared.machine.FunctionSymbol.{FunctionSymbol}
use Rattle.ruby_symbols.specs.declared.machine.MachineSymbols.{MachineSymbols}
use Rattle.ruby_symbols.specs.declared.machine.PortSymbol.{PortSymbol}
use Rattle.ruby_symbols.specs.declared.machine.TableSort.{TableSort}
use Rattle.ruby_symbols.specs.declared.machine.TableSymbol.{TableSymbol}
use Rattle.ruby_symbols.specs.declared.machine.TransitionSymbol.{TransitionSymbol}
use Rattle.ruby_symbols.specs.Prelude.{action_among, buffer_among, function_among}
use Rattle.slicc_ast.specs.declared.tree.declaration.Formal.{Formal}
use Rattle.slicc_ast.specs.declared.tree.declaration.Function.{Function}
use Rattle.slicc_ast.specs.declared.tree.declaration.Function.TheVariants.{Plain, Skipped}
use Rattle.slicc_ast.specs.declared.tree.declaration.Pairs.{Pairs}
use Rattle.slicc_ast.specs.declared.tree.declaration.State.{State}
use Rattle.slicc_ast.specs.declared.tree.declaration.Structure.{Structure}
use Rattle.slicc_ast.specs.declared.tree.item.Tree.{Tree}
use Rattle.slicc_ast.specs.declared.tree.machine.Decl.{Decl}
use Rattle.slicc_ast.specs.declared.tree.machine.Decl.TheVariants.{InPort, OutPort, Action, Function as FunctionDecl}
use Rattle.slicc_ast.specs.declared.tree.machine.Machine.{Machine}
use Rattle.slicc_ast.specs.declared.tree.name.Name.{Name}
use Rattle.slicc_ast.specs.declared.tree.name.TypeName.{TypeName}
use Rattle.slicc_plan.specs.declared.row.Written.{Written}
use Rattle.slicc_plan.specs.Buffers.{BufferIn, buffer_in}
use Rattle.slicc_plan.specs.BuiltIn.{permissions}
use Rattle.slicc_plan.specs.Declarations.{Declaration, states, parameter, object, within, machine_declarations}
use Rattle.slicc_plan.specs.Limits.{is_events, is_sequencer, is_states}
use Rattle.slicc_plan.specs.MachineValues.{references_of, values_of}
use Rattle.slicc_plan.specs.Machines.{directory_structure, entry_structure, tbe_structure, written_of}
use Rattle.slicc_plan.specs.MessageTypes.{message_type}
use Rattle.slicc_plan.specs.Setups.{attributes_of, buffer_place, is_ordered}
use Rattle.slicc_plan.specs.Tables.{line_structure, table_in}
use Rattle.slicc_plan.specs.TypeNumbers.{declared_number, kind_or_bool, no_structure, structure_number, value_kind}
use Rattle.slicc_plan.specs.Types.{structured, declared_type, type_in}

-- States and events.

-- the number of the enumeration that a machine declares, if it does; else one that no enumeration has
abbrev pub number_of_found : List Tree → Machine → Option Declaration → ℕ
number_of_found trees m d =
    unwrap_or (option_and_then (declared_number trees) (option_and_then (declared_type (within m)) d)) no_structure

-- the number of a permission by its name, `Invalid` where it is none
abbrev pub permission_number : List ℕ → ℕ
permission_number text = unwrap_or (position (λ name. bytes_eq name text) permissions) 2

abbrev pub permissions_found : Option Declaration → List ℕ
permissions_found (Some (states d)) = map (λ (s : State). permission_number s.permission.text) d.members
permissions_found _ = []

-- Parameters and objects.

-- the number of the structure of a machine's lines
abbrev pub line_number : List Tree → Machine → Option Structure → Option ℕ
line_number trees m s = option_and_then (λ (found : Structure). structure_number trees (structured (within m) found)) s

abbrev pub table_of_sort : List Tree → Machine → List ℕ → Option TableSort → List TableSymbol
table_of_sort trees m text None = []
table_of_sort trees m text (Some sort) =
    record { name = text; sort = sort; structure = unwrap_or (line_number trees m (line_structure m sort)) no_structure } ∷ []

abbrev pub table_symbol : List Tree → Machine → Declaration → List TableSymbol
table_symbol trees m (parameter p) = table_of_sort trees m p.name.text (table_in trees m (parameter p))
table_symbol trees m (object o) = table_of_sort trees m o.name.text (table_in trees m (object o))
table_symbol trees m _ = []

-- of the machine of this number
abbrev pub buffer_of_place : List Tree → ℕ → Option Pairs → Option BufferIn → List BufferSymbol
buffer_of_place trees number pairs None = []
buffer_of_place trees number pairs (Some b) =
    let t = message_type trees number b in
    record {
      name = b.name.text;
      place = buffer_place trees b.place t;
      ordered = is_ordered pairs;
      message = option_and_then (structure_number trees) t;
    } ∷ []

abbrev pub buffer_symbol : List Tree → ℕ → Machine → Declaration → List BufferSymbol
buffer_symbol trees number m d = buffer_of_place trees number (attributes_of d) (buffer_in trees m d)

abbrev pub buffer_symbols : List Tree → ℕ → Machine → List BufferSymbol
buffer_symbols trees number m = flat_map (buffer_symbol trees number m) (machine_declarations m)

-- the name of a parameter or an object that is a sequencer, which a machine has once at most
abbrev pub sequencer_in : List Tree → Machine → Declaration → Option (List ℕ)
sequencer_in trees m (parameter p) = cond (is_sequencer trees m (parameter p)) (Some p.name.text) None
sequencer_in trees m (object o) = cond (is_sequencer trees m (object o)) (Some o.name.text) None
sequencer_in trees m _ = None

abbrev pub sequencer_name : List Tree → Machine → Option (List ℕ)
sequencer_name trees m = slice_get (filter_map (sequencer_in trees m) (machine_declarations m)) 0

-- What has a body, and ports that have none. Each declaration between a machine's braces has its number in the text there.

abbrev pub numbered_from : {X Y : Type 0} → (ℕ → X → List Y) → ℕ → List X → List Y
numbered_from f number [] = []
numbered_from f number (x ∷ xs) = f number x ++ numbered_from f (number + 1) xs

abbrev pub port_on_buffer : List ℕ → ℕ → Option ℕ → List PortSymbol
port_on_buffer text number None = []
port_on_buffer text number (Some buffer) = record { name = text; buffer = buffer; declaration = number } ∷ []

-- a port is on the buffer of that name, of these of its machine
abbrev pub in_port_symbol : List BufferSymbol → ℕ → Decl → List PortSymbol
in_port_symbol buffers number (InPort p) = port_on_buffer p.name.text number (buffer_among buffers p.buffer.text)
in_port_symbol buffers number _ = []

abbrev pub out_port_symbol : List BufferSymbol → ℕ → Decl → List PortSymbol
out_port_symbol buffers number (OutPort p) = port_on_buffer p.name.text number (buffer_among buffers p.buffer.text)
out_port_symbol buffers number _ = []

abbrev pub action_symbol : ℕ → Decl → List ActionSymbol
action_symbol number (Action a) = record { name = a.name.text; declaration = number } ∷ []
action_symbol number _ = []

-- the kind of the values of the type of this name, where it has values
abbrev pub kind_in : List Tree → Machine → TypeName → Option Kind
kind_in trees m kind = option_and_then (value_kind trees m) (type_in trees (within m) kind.text)

abbrev pub formal_symbol : List Tree → Machine → Formal → FormalSymbol
formal_symbol trees m f =
    record { name = option_map (λ (n : Name). n.text) f.name; kind = kind_or_bool (kind_in trees m f.kind) }

abbrev pub function_with_body : List Tree → Machine → ℕ → Function → List FunctionSymbol
function_with_body trees m number (Plain kind called formals attributes (Some body) span) =
    record {
      name = called.text;
      declaration = number;
      formals = map (formal_symbol trees m) formals.items;
      result = kind_in trees m kind;
    } ∷ []
function_with_body trees m number (Plain kind called formals attributes None span) = []
function_with_body trees m number (Skipped s) = []

abbrev pub function_symbol : List Tree → Machine → ℕ → Decl → List FunctionSymbol
function_symbol trees m number (FunctionDecl f) = function_with_body trees m number f
function_symbol trees m number _ = []

abbrev pub function_symbols : List Tree → Machine → List FunctionSymbol
function_symbols trees m = numbered_from (function_symbol trees m) 0 m.declarations

abbrev pub action_symbols : Machine → List ActionSymbol
action_symbols m = numbered_from action_symbol 0 m.declarations

-- Transitions.

abbrev pub transition_symbol : Written → TransitionSymbol
transition_symbol t = record { states = t.states; events = t.events; next = t.next; actions = t.actions }

-- A whole machine.

-- of this machine, which has this number
unfoldable pub machine_symbols : List Tree → ℕ → Machine → MachineSymbols
machine_symbols trees number m =
    let buffers = buffer_symbols trees number m in
    let functions = function_symbols trees m in
    let actions = action_symbols m in
    record {
      name = m.name.text;
      states = number_of_found trees m (find is_states (machine_declarations m));
      permissions = permissions_found (find is_states (machine_declarations m));
      events = number_of_found trees m (find is_events (machine_declarations m));
      tables = flat_map (table_symbol trees m) (machine_declarations m);
      values = values_of trees m;
      references = references_of trees m;
      buffers = buffers;
      sequencer = sequencer_name trees m;
      in_ports = numbered_from (in_port_symbol buffers) 0 m.declarations;
      out_ports = numbered_from (out_port_symbol buffers) 0 m.declarations;
      functions = functions;
      actions = actions;
      transitions = map transition_symbol (written_of m);
      entry = line_number trees m (entry_structure m);
      directory = line_number trees m (directory_structure m);
      tbe = line_number trees m (tbe_structure m);
      get_state = function_among functions (codes "getState");
      set_state = function_among functions (codes "setState");
      set_permission = function_among functions (codes "setAccessPermission");
      get_next_state = function_among functions (codes "getNextState");
      stall = action_among actions (codes "z_stall");
    }
