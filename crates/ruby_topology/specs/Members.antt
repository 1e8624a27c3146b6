-- The controllers of a run and their names. They are numbered from 0, machine by machine in the order of the protocol's text, and
-- within a machine by index. A controller's name is its machine's name, `-` and its index. This numbering is this project's own.
use Rattle.std.specs.Prelude.{ℕ, ◌+◌, ◌/◌, ◌%◌, cond, nat_lt, Option, None, Some, List, [], ◌∷◌, ◌++◌, find, length, slice_get, unwrap_or}
use Rattle.std.specs.List.{range_with_len}
use Rattle.std.specs.Option.{option_map}
use Rattle.std.specs.Str.{bytes_eq}
use Rattle.ruby_symbols.specs.declared.machine.MachineSymbols.{MachineSymbols}
use Rattle.ruby_symbols.specs.declared.symbols.Symbols.{Symbols}
use Rattle.ruby_topology.specs.declared.forms.Member.{Member}
use Rattle.ruby_topology.specs.declared.forms.Statement.{Statement}
use Rattle.ruby_topology.specs.Said.{count_of, first_some}

-- a number below 100 as digits: an index is below 64
abbrev pub decimal : ℕ → List ℕ
decimal n = cond (nat_lt n 10) ((48 + n) ∷ []) ((48 + (n / 10) % 10) ∷ (48 + n % 10) ∷ [])

abbrev pub controller_name : List ℕ → ℕ → List ℕ
controller_name machine index = machine ++ (45 ∷ decimal index)

abbrev pub machine_name : Symbols → ℕ → List ℕ
machine_name symbols machine = unwrap_or (option_map (λ (m : MachineSymbols). m.name) (slice_get symbols.machines machine)) []

-- how many controllers a machine has; none before a line gives it some
abbrev pub count_or_none : List Statement → ℕ → ℕ
count_or_none said machine = unwrap_or (count_of said machine) 0

-- which of so many controllers of a machine has this name
abbrev pub index_named : List ℕ → ℕ → List ℕ → Option ℕ
index_named machine count text = find (λ index. bytes_eq (controller_name machine index) text) (range_with_len 0 count)

abbrev pub member_at : ℕ → Option ℕ → Option Member
member_at machine None = None
member_at machine (Some index) = Some (record { machine = machine; index = index })

abbrev pub member_in : Symbols → List Statement → List ℕ → ℕ → Option Member
member_in symbols said text machine =
    member_at machine (index_named (machine_name symbols machine) (count_or_none said machine) text)

-- the controller of this name, of those that lines have given to machines
abbrev pub member_named : Symbols → List Statement → List ℕ → Option Member
member_named symbols said text = first_some (member_in symbols said text) (range_with_len 0 (length symbols.machines))
