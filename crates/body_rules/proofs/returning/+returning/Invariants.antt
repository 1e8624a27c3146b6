use Rattle.std.proofs.Common.{◌≡◌, flat_map, take}
use Rattle.slicc_plan.specs.Prelude.{first_of, returns_in}
use Rattle.body_rules.specs.Prelude.{arm_returns, wrong_among}
use Rattle.body_rules.proofs.returning.+returning.Given as goal

abbrev pub invariant-wrong_in_statements-loop-s : goal.invariant-wrong_in_statements-loop-s
invariant-wrong_in_statements-loop-s l = l.first ≡ first_of (wrong_among l.is_wanted (flat_map returns_in (take l.s-index l.statements)))

abbrev pub invariant-wrong_in_others-loop-other : goal.invariant-wrong_in_others-loop-other
invariant-wrong_in_others-loop-other l = l.first ≡ first_of (wrong_among l.is_wanted (flat_map arm_returns (take l.other-index l.others)))
