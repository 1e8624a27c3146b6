use Rattle.std.proofs.Common.{ℕ, ◌-◌, ◌≤◌, Bool, List, ◌++◌, decimal, map}
use Rattle.trace_print.specs.Prelude.{controllers_in, spaced, IsLinePut}
use Rattle.trace_print.proofs.Members.{left_from}
use Rattle.trace_print.proofs.code.add_each.Given as goal

abbrev pub invariant-loop-from : goal.invariant-loop-from
invariant-loop-from g l = record {
  goes_on :
      (rest : List ℕ) (whole : Bool) (last : _) → IsLinePut g.S.Sink.writes l.sink (l.line.items ++ (spaced (map decimal (left_from l.from l.members)) ++ rest)) whole last
      → IsLinePut g.S.Sink.writes l.initial.sink (l.initial.line.items ++ (spaced (map decimal (controllers_in l.members)) ++ rest)) whole last;
  within : l.from ≤ 4294967296;
}

abbrev pub decreases-loop-from : goal.decreases-loop-from
decreases-loop-from g l = 4294967296 - l.from
