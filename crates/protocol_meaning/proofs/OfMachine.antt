-- What a machine of a protocol is, so that its controllers keep within what the protocol declares and the run has.
use Rattle.std.specs.Prelude.{◌≡◌, ◌≤◌, ℕ, IfSome, List, Some, length, slice_get}
use Rattle.std.specs.List.{All}
use Rattle.std.specs.Option.{option_map}
use Rattle.ruby_value.specs.declared.setup.MachineSetup.{MachineSetup}
use Rattle.ruby_value.specs.declared.setup.TableSetup.{TableSetup}
use Rattle.ruby_value.specs.declared.value.Value.{Value}
use Rattle.ruby_symbols.specs.declared.machine.MachineSymbols.{MachineSymbols}
use Rattle.slicc_ast.specs.declared.tree.item.Tree.{Tree}
use Rattle.slicc_ast.specs.declared.tree.machine.Machine.{Machine}
use Rattle.slicc_plan.specs.Prelude.{symbols_of}
use Rattle.ctl_face.specs.Prelude.{opening_table, ParameterTable}
use Rattle.protocol_meaning.specs.Prelude.{reading_of, reading_with, AreWithin, IsMember, members_of, declared_extent}
use Rattle.protocol_meaning.proofs.Reading.{ReadingWithin}

-- It has states and events, it is read within the extent, its tables begin within it, and the last one
-- is that of its values.
pub record MachineWithin (trees : List Tree) (controllers machine : ℕ) (setup : MachineSetup) : Type 0 where
  pub m : MachineSymbols
  pub tree : Machine
  pub symbols : slice_get (symbols_of trees).machines machine ≡ Some m
  pub reads : reading_of trees machine ≡ Some (reading_with (symbols_of trees) machine m tree)
  pub values : List Value
  pub within : ReadingWithin (reading_with (symbols_of trees) machine m tree) controllers values
  pub tables : All (λ (s : TableSetup). AreWithin (declared_extent trees controllers) s.initial) setup.tables
  pub has_states : 1 ≤ length (members_of (declared_extent trees controllers) m.states)
  pub has_events : 1 ≤ length (members_of (declared_extent trees controllers) m.events)
  pub default_state : IfSome setup.default_state (IsMember (declared_extent trees controllers) m.states)
  pub kept :
      option_map (λ (s : TableSetup). opening_table s.size s.initial) (slice_get setup.tables (length m.tables)) ≡ Some (ParameterTable values)
