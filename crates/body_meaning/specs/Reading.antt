-- What the bodies of a machine are read by, as values: the protocol's symbols, the machine's number, its symbols, where its
-- controllers keep the machines' numbers, and the machine as it is written, in which the functions that are called have their bodies.
-- In code it is borrowed.
use Rattle.std.specs.Prelude.{ℕ}
use Rattle.slicc_ast.specs.declared.tree.machine.Machine.{Machine}
use Rattle.ruby_symbols.specs.declared.machine.MachineSymbols.{MachineSymbols}
use Rattle.ruby_symbols.specs.declared.symbols.Symbols.{Symbols}
use Rattle.built_in_acts.specs.declared.machines.KeptMachines.{KeptMachines}
use Rattle.body_meaning.specs.declared.frame.Scope.{Scope}

pub record Reading : Type 0 where
  pub symbols : Symbols
  pub number : ℕ
  pub machine : MachineSymbols
  pub kept : KeptMachines
  pub tree : Machine

abbrev pub reading : Scope → Reading
reading s = record {
  symbols = s.symbols.now;
  number = s.number;
  machine = s.machine.now;
  kept = s.kept;
  tree = s.tree.now;
}
