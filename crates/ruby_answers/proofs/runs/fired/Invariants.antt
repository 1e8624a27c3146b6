use Rattle.std.proofs.Common.{◌≡◌, ◌≤◌, count_by, take}
use Rattle.ruby_answers.specs.Prelude.{is_fired}
use Rattle.ruby_answers.proofs.runs.fired.Given as goal

abbrev pub invariant-loop-place : goal.invariant-loop-place
invariant-loop-place l = record {
  count : l.count ≡ count_by is_fired (take l.place l.journal);
  bound : l.count ≤ l.place;
}
