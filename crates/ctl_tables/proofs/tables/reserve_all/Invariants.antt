use Rattle.std.proofs.Common.{◌≡◌, ℕ, length, All, map, take}
use Rattle.ctl_tables.specs.Prelude.{table_of, HasRoom}
use Rattle.ctl_tables.proofs.tables.reserve_all.Given as goal

abbrev pub invariant-loop-i : goal.invariant-loop-i
invariant-loop-i l = (map table_of l.tables ≡ map table_of l.initial.tables) × All (HasRoom l.more) (take l.i l.tables)
    × ((n : ℕ) → All (HasRoom n) l.initial.tables → All (HasRoom n) l.tables)
    × (length l.tables ≡ length l.initial.tables)
