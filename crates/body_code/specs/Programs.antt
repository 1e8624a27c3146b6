-- The program of a protocol. Machine by machine come the bodies that others call: those from states to permissions; those of functions, each
-- after those that it calls; and those of transitions after their first actions. The last bodies are the roots, by which the program is
-- run: machine by machine one for each in port, one for `getState` where it is written, one for `getNextState` where a transition has
-- `*`, and one for each written transition.
use Rattle.std.specs.Prelude.{ℕ, ◌+◌, Bool, true, false, Option, None, Some, List, [], ◌∷◌, ◌++◌, filter_map, flat_map, length, map}
use Rattle.std.specs.List.{list_any}
use Rattle.ruby_value.specs.declared.kind.Kind.{Kind}
use Rattle.ruby_value.specs.declared.kind.Kind.TheVariants as kind
use Rattle.ruby_symbols.specs.declared.machine.MachineSymbols.{MachineSymbols}
use Rattle.ruby_symbols.specs.declared.machine.Next.{Next}
use Rattle.ruby_symbols.specs.declared.machine.Next.TheVariants.{Asked}
use Rattle.ruby_symbols.specs.declared.machine.TransitionSymbol.{TransitionSymbol}
use Rattle.ruby_symbols.specs.declared.symbols.Symbols.{Symbols}
use Rattle.ruby_symbols.specs.declared.types.FieldSymbol.{FieldSymbol}
use Rattle.ruby_symbols.specs.declared.types.StructureSymbol.{StructureSymbol}
use Rattle.action_code.specs.declared.instr.Code.{Code}
use Rattle.action_code.specs.declared.program.MachineDecl.{MachineDecl}
use Rattle.action_code.specs.declared.program.Program.{Program}
use Rattle.body_meaning.specs.Prelude.{Reading}
use Rattle.body_code.specs.declared.numbers.BodyNumbers.{BodyNumbers}
use Rattle.body_code.specs.Bodies.{asked_code, function_code, permission_code, port_code, read_code, rest_code, rest_codes}
use Rattle.body_code.specs.Calls.{function_at}
use Rattle.body_code.specs.Kinds.{machine_declared}
use Rattle.body_code.specs.Order.{order_of}

-- Declarations.

-- of these machines, which are numbered from here on
abbrev pub machines_declared : Symbols → ℕ → List MachineSymbols → List MachineDecl
machines_declared symbols number [] = []
machines_declared symbols number (m ∷ ms) = machine_declared symbols number m ∷ machines_declared symbols (number + 1) ms

abbrev pub kinds_of : List FieldSymbol → List Kind
kinds_of fields = map (λ (f : FieldSymbol). f.kind) fields

-- a machine's values, and after them for each machine two numbers: its first controller's and how many it has
abbrev pub values_kinds : Symbols → MachineSymbols → List Kind
values_kinds symbols m =
    kinds_of m.values ++ flat_map (λ (other : MachineSymbols). kind.Int ∷ kind.Int ∷ []) symbols.machines

abbrev pub structures_declared : Symbols → List (List Kind)
structures_declared symbols =
    map (λ (t : StructureSymbol). kinds_of t.fields) symbols.structures ++ map (values_kinds symbols) symbols.machines

-- Bodies that others call, of a machine whose first body has this number.

abbrev pub numbers_at : ℕ → Reading → BodyNumbers
numbers_at first s =
    record { order = order_of s; first = first + length s.symbols.machines; permissions = first }

abbrev pub function_codes : Reading → BodyNumbers → List Code
function_codes s n = map (function_code s n) (filter_map (function_at s) n.order)

abbrev pub permission_codes : Reading → List Code
permission_codes s = map (permission_code s) s.symbols.machines

-- of these transitions, whose bodies have the numbers from this one on
abbrev pub chains : Reading → BodyNumbers → ℕ → List TransitionSymbol → List Code
chains s n first [] = []
chains s n first (row ∷ rows) =
    rest_codes s n row.next first row.actions ++ chains s n (first + length row.actions) rows

abbrev pub first_chain : Reading → BodyNumbers → ℕ
first_chain s n = n.first + length n.order

abbrev pub called_bodies : Reading → BodyNumbers → List Code
called_bodies s n = permission_codes s ++ function_codes s n ++ chains s n (first_chain s n) s.machine.transitions

-- Roots.

abbrev pub is_asked : Option Next → Bool
is_asked (Some Asked) = true
is_asked _ = false

-- some transition of the machine has `*`
abbrev pub asks_next : MachineSymbols → Bool
asks_next m = list_any (λ (t : TransitionSymbol). is_asked t.next) m.transitions

abbrev pub state_root : (ℕ → Code) → Option ℕ → List Code
state_root code None = []
state_root code (Some function) = code function ∷ []

abbrev pub next_function : MachineSymbols → Option ℕ
next_function m = asked (asks_next m)
  where
    asked : Bool → Option ℕ
    asked true = m.get_next_state
    asked false = None

abbrev pub transition_roots : Reading → BodyNumbers → ℕ → List TransitionSymbol → List Code
transition_roots s n first [] = []
transition_roots s n first (row ∷ rows) =
    rest_code s n row.next first row.actions ∷ transition_roots s n (first + length row.actions) rows

abbrev pub roots : Reading → BodyNumbers → List Code
roots s n =
    map (port_code s n) s.machine.in_ports
    ++ state_root (read_code s n) s.machine.get_state
    ++ state_root (asked_code s n) (next_function s.machine)
    ++ transition_roots s n (first_chain s n) s.machine.transitions

-- A whole program.

pub record Numbered : Type 0 where
  pub reading : Reading
  pub numbers : BodyNumbers

-- of machines whose bodies have the numbers from this one on
abbrev pub numbered_from : ℕ → List Reading → List Numbered
numbered_from first [] = []
numbered_from first (s ∷ ss) =
    let n = numbers_at first s in
    record { reading = s; numbers = n } ∷ numbered_from (first + length (called_bodies s n)) ss

abbrev pub bodies_by : (Reading → BodyNumbers → List Code) → List Numbered → List Code
bodies_by bodies machines = flat_map (λ (m : Numbered). bodies m.reading m.numbers) machines

-- of the protocol with these symbols, whose machines are read by these
abbrev pub program_of : Symbols → List Reading → Program
program_of symbols readings =
    let machines = numbered_from 0 readings in
    record {
      machines = machines_declared symbols 0 symbols.machines;
      structures = structures_declared symbols;
      bodies = bodies_by called_bodies machines ++ bodies_by roots machines;
    }
