use Rattle.std.proofs.Common.{ℕ, ◌+◌, Bool, List, ◌++◌, length}
use Rattle.trace_print.specs.Prelude.{IsLinePut}
use Rattle.trace_print.proofs.line.add.Given as goal

abbrev pub invariant-loop-left : goal.invariant-loop-left
invariant-loop-left g l =
    (rest : List ℕ) (whole : Bool) (last : _) → IsLinePut g.S.Sink.writes l.sink (l.line.items ++ (l.left ++ rest)) whole last
    → IsLinePut g.S.Sink.writes l.initial.sink (l.initial.line.items ++ (l.bytes ++ rest)) whole last

abbrev pub decreases-loop-left : goal.decreases-loop-left
decreases-loop-left g l = length l.left + length l.line.items
