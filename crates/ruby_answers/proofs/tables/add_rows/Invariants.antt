use Rattle.std.proofs.Common.{◌≡◌, ◌++◌}
use Rattle.ruby_answers.specs.Prelude.{answered_in_state}
use Rattle.ruby_answers.proofs.tables.add_rows.Given as goal

abbrev pub invariant-loop-event : goal.invariant-loop-event
invariant-loop-event l = l.found ≡ l.initial.found ++ answered_in_state l.tables l.number l.event l.state
