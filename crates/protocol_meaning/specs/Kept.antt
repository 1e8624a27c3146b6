-- What built-in calls take for granted of what a machine is to its controllers: the table in which they look for the controllers of
-- machines is the last one, that of its values, and each machine's range is at the place where they look for it.
use Rattle.std.specs.Prelude.{ℕ, ◌≡◌, ◌+◌, ◌*◌, IfSome, Option, Some, List, length, pos, slice_get}
use Rattle.std.specs.Option.{option_and_then}
use Rattle.ruby_value.specs.declared.setup.MachineSetup.{MachineSetup}
use Rattle.ruby_value.specs.declared.setup.TableSetup.{TableSetup}
use Rattle.ruby_value.specs.declared.value.Value.{Value}
use Rattle.ruby_value.specs.declared.value.Value.TheVariants.{Int}
use Rattle.built_in_acts.specs.declared.machines.KeptMachines.{KeptMachines}

module _ (kept : KeptMachines) (setup : MachineSetup) where
  -- of the numbers of controllers the one at this place, as a run begins
  abbrev pub kept_value : ℕ → Option Value
  kept_value place = option_and_then (λ (t : TableSetup). slice_get t.initial (kept.first + place)) (slice_get setup.tables kept.table)

  -- of the machine of this number, by the first controller and how many it has
  pub record IsKept (machine : ℕ) (range : ℕ × ℕ) : Type 0 where
    pub first : kept_value (2 * machine) ≡ Some (Int (pos range.0))
    pub count : kept_value (2 * machine + 1) ≡ Some (Int (pos range.1))

  pub record KeepsRanges (ranges : List (ℕ × ℕ)) : Type 0 where
    pub last : kept.table + 1 ≡ length setup.tables
    pub all : kept.count ≡ length ranges
    pub each : (machine : ℕ) → IfSome (slice_get ranges machine) (IsKept machine)
