-- The parts in which a machine's symbols are made.
use Rattle.std.specs.Prelude.{◌≡◌, ◌++◌, ℕ, List, [], Option, find, flat_map, map}
use Rattle.ruby_symbols.specs.declared.machine.BufferSymbol.{BufferSymbol}
use Rattle.slicc_ast.specs.declared.tree.declaration.Pairs.{Pairs}
use Rattle.slicc_ast.specs.declared.tree.item.Tree.{Tree}
use Rattle.slicc_ast.specs.declared.tree.machine.Decl.{Decl}
use Rattle.slicc_ast.specs.declared.tree.machine.Literal.{Literal}
use Rattle.slicc_ast.specs.declared.tree.machine.Machine.{Machine}
use Rattle.slicc_plan.specs.Prelude.{Declaration, machine_declarations, within, is_events, is_states, reference_in, reference_of_type, value_in, directory_structure, entry_structure, tbe_structure, written_of, action_symbol, buffer_symbol, function_symbol, in_port_symbol, line_number, number_of_found, numbered_from, out_port_symbol, permissions_found, table_of_sort, table_symbol, transition_symbol, table_sort, type_in}
use Rattle.slicc_plan.specs.MachineValues.{value_of_type}
use Rattle.protocol_symbols.specs.declared.bodies.Bodies.{Bodies}
use Rattle.protocol_symbols.specs.declared.machine.Numbers.{Numbers}
use Rattle.protocol_symbols.specs.declared.objects.Objects.{Objects}
use Rattle.protocol_symbols.specs.declared.machine.Rest.{Rest}

pub record AreNumbers (trees : List Tree) (m : Machine) (numbers : Numbers) : Type 0 where
  pub states : numbers.states ≡ number_of_found trees m (find is_states (machine_declarations m))
  pub events : numbers.events ≡ number_of_found trees m (find is_events (machine_declarations m))
  pub entry : numbers.entry ≡ line_number trees m (entry_structure m)
  pub directory : numbers.directory ≡ line_number trees m (directory_structure m)
  pub tbe : numbers.tbe ≡ line_number trees m (tbe_structure m)

abbrev pub no_objects : Objects
no_objects = record { tables = []; values = []; references = []; buffers = [] }

-- a parameter or an object of this name and type is added, but for a buffer
pub record AddNamed (trees : List Tree) (m : Machine) (text kind : List ℕ) (pairs : Pairs) (literal : Option Literal) (old new : Objects) : Type 0 where
  pub tables : new.tables ≡ old.tables ++ table_of_sort trees m text (table_sort (type_in trees (within m) kind) pairs)
  pub values : new.values ≡ old.values ++ value_of_type trees text (type_in trees (within m) kind) literal
  pub references : new.references ≡ old.references ++ reference_of_type trees m text (type_in trees (within m) kind)
  pub buffers : new.buffers ≡ old.buffers

-- a declaration is added
pub record AddObject (trees : List Tree) (number : ℕ) (m : Machine) (d : Declaration) (old new : Objects) : Type 0 where
  pub tables : new.tables ≡ old.tables ++ table_symbol trees m d
  pub values : new.values ≡ old.values ++ value_in trees m d
  pub references : new.references ≡ old.references ++ reference_in trees m d
  pub buffers : new.buffers ≡ old.buffers ++ buffer_symbol trees number m d

pub record AddObjects (trees : List Tree) (number : ℕ) (m : Machine) (ds : List Declaration) (old new : Objects) : Type 0 where
  pub tables : new.tables ≡ old.tables ++ flat_map (table_symbol trees m) ds
  pub values : new.values ≡ old.values ++ flat_map (value_in trees m) ds
  pub references : new.references ≡ old.references ++ flat_map (reference_in trees m) ds
  pub buffers : new.buffers ≡ old.buffers ++ flat_map (buffer_symbol trees number m) ds

-- the declaration of this number between the machine's braces is added
pub record AddBody (trees : List Tree) (m : Machine) (buffers : List BufferSymbol) (number : ℕ) (d : Decl) (old new : Bodies) : Type 0 where
  pub in_ports : new.in_ports ≡ old.in_ports ++ in_port_symbol buffers number d
  pub out_ports : new.out_ports ≡ old.out_ports ++ out_port_symbol buffers number d
  pub functions : new.functions ≡ old.functions ++ function_symbol trees m number d
  pub actions : new.actions ≡ old.actions ++ action_symbol number d

pub record AddBodies (trees : List Tree) (m : Machine) (buffers : List BufferSymbol) (ds : List Decl) (old new : Bodies) : Type 0 where
  pub in_ports : new.in_ports ≡ old.in_ports ++ numbered_from (in_port_symbol buffers) 0 ds
  pub out_ports : new.out_ports ≡ old.out_ports ++ numbered_from (out_port_symbol buffers) 0 ds
  pub functions : new.functions ≡ old.functions ++ numbered_from (function_symbol trees m) 0 ds
  pub actions : new.actions ≡ old.actions ++ numbered_from action_symbol 0 ds

abbrev pub no_bodies : Bodies
no_bodies = record { in_ports = []; out_ports = []; functions = []; actions = [] }

pub record AddRest (m : Machine) (old new : Rest) : Type 0 where
  pub name : new.name ≡ old.name ++ m.name.text
  pub permissions : new.permissions ≡ old.permissions ++ permissions_found (find is_states (machine_declarations m))
  pub transitions : new.transitions ≡ old.transitions ++ map transition_symbol (written_of m)

abbrev pub no_rest : Rest
no_rest = record { name = []; permissions = []; transitions = [] }
