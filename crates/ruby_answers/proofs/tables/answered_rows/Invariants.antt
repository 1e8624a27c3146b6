use Rattle.std.proofs.Common.{◌≡◌, flat_map}
use Rattle.slicc_plan.specs.Prelude.{numbers_below}
use Rattle.ruby_answers.specs.Prelude.{answered_in_state}
use Rattle.ruby_answers.proofs.tables.answered_rows.Given as goal

abbrev pub invariant-loop-state : goal.invariant-loop-state
invariant-loop-state l = l.found ≡ flat_map (answered_in_state l.tables l.number l.events) (numbers_below l.state)
