-- What holds for accepted protocols and their machines, as symbols.
use Rattle.std.specs.Prelude.{ℕ, ◌≡◌, ◌≤◌, ◌==◌, All, Bool, false, IfSome, List, length, option_and_then}
use Rattle.std.specs.List.{count_by}
use Rattle.ruby_value.specs.declared.setup.BufferPlace.{BufferPlace}
use Rattle.ruby_value.specs.declared.setup.BufferPlace.TheVariants.{From}
use Rattle.ruby_symbols.specs.declared.machine.BufferSymbol.{BufferSymbol}
use Rattle.ruby_symbols.specs.declared.machine.MachineSymbols.{MachineSymbols}
use Rattle.ruby_symbols.specs.declared.machine.TableSort.{TableSort}
use Rattle.ruby_symbols.specs.declared.machine.TableSort.TheVariants as sort
use Rattle.ruby_symbols.specs.declared.machine.TableSymbol.{TableSymbol}
use Rattle.ruby_symbols.specs.declared.symbols.Symbols.{Symbols}
use Rattle.ruby_symbols.specs.declared.types.EnumerationSymbol.{EnumerationSymbol}
use Rattle.ruby_symbols.specs.declared.types.StructureSymbol.{StructureSymbol}
use Rattle.slicc_ast.specs.declared.tree.item.Tree.{Tree}
use Rattle.slicc_plan.specs.MessageTypes.{network_type}
use Rattle.ruby_value.specs.Prelude.{network_of}
use Rattle.slicc_plan.specs.TypeNumbers.{structure_number}

-- the lists are within the limits of a protocol, and so within numbers of 16 bits
pub record HasNumbers (m : MachineSymbols) : Type 0 where
  pub tables : length m.tables ≤ 64
  pub values : length m.values ≤ 64
  pub references : length m.references ≤ 64
  pub buffers : length m.buffers ≤ 64
  pub in_ports : length m.in_ports ≤ 32
  pub out_ports : length m.out_ports ≤ 32
  pub functions : length m.functions ≤ 256
  pub actions : length m.actions ≤ 256

-- so are a protocol's types, those that are built in among them, the members of each enumeration and the fields of each structure
pub record HasNumberedTypes (s : Symbols) : Type 0 where
  pub enumerations : length s.enumerations ≤ 16384
  pub structures : length s.structures ≤ 16385
  pub members : All (λ (e : EnumerationSymbol). length e.members ≤ 65535) s.enumerations
  pub fields : All (λ (t : StructureSymbol). length t.fields ≤ 64) s.structures

abbrev pub HasRoom : TableSort → Type 0
HasRoom sort.Cache = Unit {0}
HasRoom sort.Directory = Unit {0}
HasRoom (sort.Tbe entries) = (1 ≤ entries) × (entries ≤ 256)

pub record HasEntries (m : MachineSymbols) : Type 0 where
  pub all : All (λ (t : TableSymbol). HasRoom t.sort) m.tables

pub record HasNetworks (m : MachineSymbols) : Type 0 where
  pub all : All (λ (b : BufferSymbol). IfSome (network_of b.place) (λ n. n ≤ 15)) m.buffers

abbrev pub is_from : ℕ → BufferPlace → Bool
is_from network (From n) = n == network
is_from network _ = false

pub record ReceivesOnce (m : MachineSymbols) : Type 0 where
  pub each : (network : ℕ) → count_by (λ (b : BufferSymbol). is_from network b.place) m.buffers ≤ 1

-- the messages of a buffer on a network are those of the network, whatever machine it is of
pub record CarriesOneMessage (trees : List Tree) (m : MachineSymbols) : Type 0 where
  pub all :
      All (λ (b : BufferSymbol). IfSome (network_of b.place)
      (λ n. b.message ≡ option_and_then (structure_number trees) (network_type trees n))) m.buffers
