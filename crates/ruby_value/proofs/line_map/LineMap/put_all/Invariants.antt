use Rattle.std.proofs.Common.{◌≡◌, ◌≤◌, ◌+◌, vec_len}
use Rattle.ruby_value.specs.Prelude.{with_all}
use Rattle.ruby_value.proofs.line_map.LineMap.put_all.Given as goal

abbrev pub invariant-loop-line : goal.invariant-loop-line
invariant-loop-line g l =
    (vec_len l.entries ≤ l.self.room)
    × (l.initial.self.room + vec_len l.entries ≤ l.self.room + vec_len l.initial.entries)
    × (with_all l.self.kept l.entries.items ≡ with_all l.initial.self.kept l.initial.entries.items)

abbrev pub decreases-loop-line : goal.decreases-loop-line
decreases-loop-line g l = vec_len l.entries
