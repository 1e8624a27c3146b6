-- By which bodies the machines of a protocol are run. The last bodies of a program are these roots: machine by machine in the order of the
-- text one for each in port, one for `getState` where it is written, one for `getNextState` where a transition has `*`, and one for each
-- written transition. And what is looked at before a transition: which action stalls, which tables are checked, and on which buffers
-- messages are sent.
use Rattle.std.specs.Prelude.{ℕ, ◌+◌, ◌-◌, Bool, true, false, Option, None, Some, List, [], ◌∷◌, filter, filter_map, length}
use Rattle.std.specs.List.{list_any}
use Rattle.std.specs.Option.{option_map}
use Rattle.ruby_value.specs.declared.setup.BufferPlace.{BufferPlace}
use Rattle.ruby_value.specs.declared.setup.BufferPlace.TheVariants.{Local, To, From}
use Rattle.ruby_symbols.specs.declared.machine.MachineSymbols.{MachineSymbols}
use Rattle.ruby_symbols.specs.declared.machine.TransitionSymbol.{TransitionSymbol}
use Rattle.slicc_ast.specs.declared.tree.item.Tree.{Tree}
use Rattle.slicc_plan.specs.Prelude.{symbols_of}
use Rattle.action_code.specs.declared.program.Program.{Program}
use Rattle.body_meaning.specs.Actions.Pick.{Tables}
use Rattle.body_meaning.specs.Prelude.{Reading, action_names, names_table, place_among}
use Rattle.protocol_meaning.specs.Prelude.{reading_of}
use Rattle.body_code.specs.Prelude.{next_function, numbers_from}
use Rattle.action_gen.specs.declared.parts.Head.{Head}

-- Roots.

abbrev pub count_of : Option ℕ → ℕ
count_of None = 0
count_of (Some function) = 1

abbrev pub root_count : MachineSymbols → ℕ
root_count m = length m.in_ports + count_of m.get_state + count_of (next_function m) + length m.transitions

abbrev pub total_of : List Reading → ℕ
total_of [] = 0
total_of (s ∷ ss) = root_count s.machine + total_of ss

abbrev pub first_or_none : ℕ → List TransitionSymbol → ℕ
first_or_none first [] = 0
first_or_none first (row ∷ rows) = first

-- What is looked at.

-- those that any action of the machine checks
abbrev pub is_checked : Reading → ℕ → Bool
is_checked s table =
    list_any (names_table s.machine table) (action_names Tables s (numbers_from 0 (length s.machine.actions)))

abbrev pub is_sent_on : Option BufferPlace → Bool
is_sent_on (Some Local) = true
is_sent_on (Some (To network receivers)) = true
is_sent_on (Some (From network)) = false
is_sent_on None = false

-- A machine whose first root has this number.
abbrev pub head_at : ℕ → Reading → Head
head_at first s =
    let reads = first + length s.machine.in_ports in
    let asks = reads + count_of s.machine.get_state in
    let transitions = asks + count_of (next_function s.machine) in
    record {
      ports = numbers_from first (length s.machine.in_ports);
      reads = option_map (λ function. reads) s.machine.get_state;
      asks = option_map (λ function. asks) (next_function s.machine);
      first = first_or_none transitions s.machine.transitions;
      stall = s.machine.stall;
      checked = filter (is_checked s) (numbers_from 0 (length s.machine.tables));
      buffers = filter (λ buffer. is_sent_on (place_among s.machine buffer)) (numbers_from 0 (length s.machine.buffers));
    }

abbrev pub heads_from : ℕ → List Reading → List Head
heads_from first [] = []
heads_from first (s ∷ ss) = head_at first s ∷ heads_from (first + root_count s.machine) ss

-- what the machines of a protocol are read by, in the order of the text
abbrev pub readings_of : List Tree → List Reading
readings_of trees = filter_map (reading_of trees) (numbers_from 0 (length (symbols_of trees).machines))

-- in this program of the protocol
abbrev pub heads_of : Program → List Tree → List Head
heads_of p trees = let ss = readings_of trees in heads_from (length p.bodies - total_of ss) ss
