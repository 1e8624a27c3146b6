use Rattle.std.proofs.Common.{◌≡◌, ◌≤◌, vec_len}
use Rattle.ruby_value.specs.Prelude.{with_all}
use Rattle.ctl_tables.proofs.tables.put_all.Given as goal

abbrev pub invariant-loop-line : goal.invariant-loop-line
invariant-loop-line l =
    (vec_len l.newest_first ≤ l.states.room)
    × (with_all l.states.kept l.newest_first.items ≡ with_all l.initial.states.kept l.initial.newest_first.items)

abbrev pub decreases-loop-line : goal.decreases-loop-line
decreases-loop-line l = vec_len l.newest_first
