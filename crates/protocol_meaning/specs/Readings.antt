-- What the bodies of a machine of a protocol are read by: the protocol's symbols, and the machine's number, symbols and tree; and
-- where its controllers keep the numbers of all machines' controllers: after the machine's own values, in the table after those of
-- lines, as setups of machines lay them out.
use Rattle.std.specs.Prelude.{ℕ, Option, List, length, slice_get}
use Rattle.std.specs.Option.{option_and_then, option_map}
use Rattle.slicc_ast.specs.declared.tree.item.Tree.{Tree}
use Rattle.slicc_ast.specs.declared.tree.machine.Machine.{Machine}
use Rattle.ruby_symbols.specs.declared.machine.MachineSymbols.{MachineSymbols}
use Rattle.ruby_symbols.specs.declared.symbols.Symbols.{Symbols}
use Rattle.slicc_plan.specs.Prelude.{machines_of, symbols_of}
use Rattle.built_in_acts.specs.declared.machines.KeptMachines.{KeptMachines}
use Rattle.body_meaning.specs.Prelude.{Reading}

-- of a protocol of n machines
abbrev pub kept_machines : ℕ → MachineSymbols → KeptMachines
kept_machines n m = record { table = length m.tables; first = length m.values; count = n }

abbrev pub reading_with : Symbols → (machine : ℕ) → MachineSymbols → Machine → Reading
reading_with symbols machine m tree = record {
  symbols = symbols;
  number = machine;
  machine = m;
  kept = kept_machines (length symbols.machines) m;
  tree = tree;
}

-- of the machine of this number, where there is one
abbrev pub reading_of : List Tree → (machine : ℕ) → Option Reading
reading_of trees machine =
    option_and_then (λ m. option_map (reading_with (symbols_of trees) machine m) (slice_get (machines_of trees) machine))
    (slice_get (symbols_of trees).machines machine)
