-- What the functions of states take, in this order: `getState([TBE,] [Entry,] Addr)`, `setState([TBE,] [Entry,] Addr, State)`
-- and `setAccessPermission([Entry,] Addr, State)`. The references are there exactly where the machine has their types.
use Rattle.std.specs.Prelude.{ℕ, ◌++◌, Option, None, Some, List, [], ◌∷◌}
use Rattle.ruby_symbols.specs.declared.machine.MachineSymbols.{MachineSymbols}
use Rattle.ruby_symbols.specs.declared.states.StateArgument.{StateArgument}
use Rattle.ruby_symbols.specs.declared.states.StateArgument.TheVariants.{Tbe, Entry, Address, State}

abbrev pub where_there : StateArgument → Option ℕ → List StateArgument
where_there argument None = []
where_there argument (Some structure) = argument ∷ []

abbrev pub get_state_arguments : MachineSymbols → List StateArgument
get_state_arguments m = where_there Tbe m.tbe ++ where_there Entry m.entry ++ Address ∷ []

abbrev pub set_state_arguments : MachineSymbols → List StateArgument
set_state_arguments m = get_state_arguments m ++ State ∷ []

abbrev pub set_permission_arguments : MachineSymbols → List StateArgument
set_permission_arguments m = where_there Entry m.entry ++ Address ∷ State ∷ []
