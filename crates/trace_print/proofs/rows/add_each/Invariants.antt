use Rattle.std.proofs.Common.{ℕ, Bool, List, ◌++◌, drop, map}
use Rattle.std.specs.Option.{option_copied}
use Rattle.trace_print.specs.Prelude.{spaced, action_word, IsLinePut}
use Rattle.trace_print.proofs.rows.add_each.Given as goal

abbrev pub invariant-loop-action : goal.invariant-loop-action
invariant-loop-action g l =
    (rest : List ℕ) (whole : Bool) (last : _) → IsLinePut g.S.Sink.writes l.sink (l.line.items ++ (spaced (map (action_word (option_copied l.m)) (drop l.action-index l.actions)) ++ rest)) whole last
    → IsLinePut g.S.Sink.writes l.initial.sink (l.initial.line.items ++ (spaced (map (action_word (option_copied l.m)) l.actions) ++ rest)) whole last
