-- The symbols of a protocol, read off its trees: what it declares, as plain names and numbers. The names of types, states, events,
-- buffers and actions that its declarations use are looked up here once for all. Which names bodies use isn't said here.
use Rattle.std.specs.Prelude.{ℕ, ◌+◌, List, [], ◌∷◌}
use Rattle.ruby_symbols.specs.declared.machine.MachineSymbols.{MachineSymbols}
use Rattle.ruby_symbols.specs.declared.symbols.Symbols.{Symbols}
use Rattle.slicc_ast.specs.declared.tree.item.Tree.{Tree}
use Rattle.slicc_ast.specs.declared.tree.machine.Machine.{Machine}
use Rattle.slicc_plan.specs.Declarations.{machines_of}
use Rattle.slicc_plan.specs.SymbolsOfMachines.{machine_symbols}
use Rattle.slicc_plan.specs.SymbolsOfTypes.{enumeration_symbols, structure_symbols}

-- of these machines, which are numbered from here on
abbrev pub machines_from : List Tree → ℕ → List Machine → List MachineSymbols
machines_from trees number [] = []
machines_from trees number (m ∷ ms) = machine_symbols trees number m ∷ machines_from trees (number + 1) ms

unfoldable pub symbols_of : List Tree → Symbols
symbols_of trees =
    record {
      enumerations = enumeration_symbols trees;
      structures = structure_symbols trees;
      machines = machines_from trees 0 (machines_of trees);
    }
