use Rattle.std.proofs.Common.{◌≡◌, All, map, vec_len}
use Rattle.ctl_tables.specs.Prelude.{after_changes, table_of, HasRoom}
use Rattle.ctl_tables.proofs.tables.change_all.Given as goal

-- the first one is the tables after all that is left
abbrev pub invariant-loop-change : goal.invariant-loop-change
invariant-loop-change l =
    (after_changes l.newest_first.items (map table_of l.tables) ≡ after_changes l.initial.newest_first.items (map table_of l.initial.tables))
    × All (HasRoom (vec_len l.newest_first)) l.tables

abbrev pub decreases-loop-change : goal.decreases-loop-change
decreases-loop-change l = vec_len l.newest_first
