use Rattle.std.proofs.Common.{◌≡◌, flat_map, take}
use Rattle.slicc_names.specs.Prelude.{else_if_scopes}
use Rattle.slicc_plan.specs.Prelude.{blocks_in, first_after, repeated}
use Rattle.slicc_names.proofs.scopes.+blocks.Given as goal

abbrev pub invariant-in_statements-loop-s : goal.invariant-in_statements-loop-s
invariant-in_statements-loop-s l = l.first ≡ first_after l.initial.first (flat_map repeated (flat_map blocks_in (take l.s-index l.statements)))

abbrev pub invariant-in_others-loop-other : goal.invariant-in_others-loop-other
invariant-in_others-loop-other l = l.first ≡ first_after l.initial.first (flat_map repeated (flat_map else_if_scopes (take l.other-index l.others)))
