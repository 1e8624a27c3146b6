-- What a walk needs of a machine: that its functions, tables and buffers have numbers of 16 bits each. An accepted protocol has far fewer.
use Rattle.std.specs.Prelude.{◌<◌, length}
use Rattle.ruby_symbols.specs.declared.machine.MachineSymbols.{MachineSymbols}

pub record HasFew (m : MachineSymbols) : Type 0 where
  pub functions : length m.functions < 65536
  pub tables : length m.tables < 65536
  pub buffers : length m.buffers < 65536
