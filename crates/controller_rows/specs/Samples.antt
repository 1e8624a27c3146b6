-- What is made of a row: each part as the row has it, a field's value by its kind where the row says nothing of it, and the same
-- path between any two controllers. Nothing here says which machines and routes may be: `ctl_face` does.
use Rattle.std.specs.Prelude.{ℕ, ℤ, Bool, false, List, [], ◌∷◌, Option, None, Some, map, replicate, slice_set}
use Rattle.std.specs.List.{range_with_len}
use Rattle.ruby_value.specs.declared.kind.Kind.{Kind}
use Rattle.ruby_value.specs.declared.setup.BufferSetup.{BufferSetup}
use Rattle.ruby_value.specs.declared.setup.MachineSetup.{MachineSetup}
use Rattle.ruby_value.specs.declared.setup.TableSetup.{TableSetup}
use Rattle.ruby_value.specs.declared.value.Value.{Value}
use Rattle.ruby_value.specs.declared.value.Value.TheVariants.{Int}
use Rattle.ruby_value.specs.Prelude.{default_value}
use Rattle.controller_rows.specs.declared.machines.BufferRow.{BufferRow}
use Rattle.controller_rows.specs.declared.machines.MachineRow.{MachineRow}
use Rattle.controller_rows.specs.declared.machines.TableRow.{TableRow}
use Rattle.controller_rows.specs.declared.paths.Network.{Network}

abbrev pub initial_fields : List Kind → Option ℤ → List Value
initial_fields kinds None = map default_value kinds
initial_fields kinds (Some n) = slice_set (map default_value kinds) 0 (Int n)

abbrev pub table_setup : TableRow → TableSetup
table_setup t = record { size = t.size; structure = t.structure; kinds = t.kinds.now; initial = initial_fields t.kinds.now t.first }

abbrev pub buffer_setup : BufferRow → BufferSetup
buffer_setup b = record { place = b.place; ordered = b.ordered; kinds = b.kinds.now }

abbrev pub machine_setup : MachineRow → MachineSetup
machine_setup m = record {
  tables = map table_setup m.tables.now;
  buffers = map buffer_setup m.buffers.now;
  default_state = m.default_state;
  has_sequencer = m.has_sequencer;
}

-- the number that is the only value
abbrev pub number_in : List Value → Option ℤ
number_in (Int n ∷ []) = Some n
number_in _ = None

-- of so many controllers
abbrev pub paths_from : Network → ℕ → ℕ → List ℕ
paths_from network count sender = slice_set (replicate count network.path) sender network.own_path

abbrev pub all_paths : Network → ℕ → List (List ℕ)
all_paths network count = map (paths_from network count) (range_with_len 0 count)

abbrev pub network_order : Network → List Bool
network_order network = slice_set (replicate 16 false) 1 network.in_order
