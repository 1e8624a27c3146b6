use Rattle.std.proofs.Common.{◌≡◌, take, flat_map}
use Rattle.slicc_plan.specs.Prelude.{transition_in, first_after}
use Rattle.body_rules.specs.Prelude.{missing_with}
use Rattle.body_rules.proofs.missing.judge_transitions.Given as goal

abbrev pub invariant-loop-d : goal.invariant-loop-d
invariant-loop-d l = l.first ≡ first_after l.initial.first (flat_map (missing_with l.own) (flat_map transition_in (take l.d-index l.ds)))
