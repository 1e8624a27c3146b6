-- What a protocol has, counted from its symbols. A machine has a permission for each state, and its events are the members of its
-- `Event`. No two of its transitions share a pair, so that it has as many pairs as they have, each on its own.
use Rattle.std.specs.Prelude.{ℕ, ◌*◌, ◌<◌, ◌^◌, Option, None, Some, length, slice_get, sum_by}
use Rattle.ruby_symbols.specs.declared.machine.MachineSymbols.{MachineSymbols}
use Rattle.ruby_symbols.specs.declared.machine.TransitionSymbol.{TransitionSymbol}
use Rattle.ruby_symbols.specs.declared.symbols.Symbols.{Symbols}
use Rattle.ruby_symbols.specs.declared.types.EnumerationSymbol.{EnumerationSymbol}
use Rattle.slicc_plan.specs.declared.row.Counts.{Counts}

abbrev pub member_count : Option EnumerationSymbol → ℕ
member_count None = 0
member_count (Some e) = length e.members

abbrev pub states_by : MachineSymbols → ℕ
states_by own = length own.permissions

abbrev pub events_by : Symbols → MachineSymbols → ℕ
events_by symbols own = member_count (slice_get symbols.enumerations own.events)

abbrev pub transition_pairs : TransitionSymbol → ℕ
transition_pairs t = length t.states * length t.events

abbrev pub pairs_by : MachineSymbols → ℕ
pairs_by own = sum_by transition_pairs own.transitions

abbrev pub counts_by : Symbols → Counts
counts_by symbols =
    record {
      machines = length symbols.machines;
      states = sum_by states_by symbols.machines;
      events = sum_by (events_by symbols) symbols.machines;
      pairs = sum_by pairs_by symbols.machines;
    }

-- the sums are numbers of 64 bits
pub record HasCounts (symbols : Symbols) : Type 0 where
  pub states : (counts_by symbols).states < 2 ^ 64
  pub events : (counts_by symbols).events < 2 ^ 64
  pub pairs : (counts_by symbols).pairs < 2 ^ 64
