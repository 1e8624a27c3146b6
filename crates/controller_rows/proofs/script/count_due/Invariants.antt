use Rattle.std.proofs.Common.{◌≡◌, ◌+◌, drop}
use Rattle.controller_rows.specs.Prelude.{count_due}
use Rattle.controller_rows.proofs.script.count_due.Given as goal

abbrev pub invariant-loop-i : goal.invariant-loop-i
invariant-loop-i l = record {
  at : l.count ≡ l.i-index;
  rest : count_due l.now l.requests ≡ l.count + count_due l.now (drop l.i-index l.requests);
}
