use Rattle.std.proofs.Common.{◌≡◌, flat_map, take}
use Rattle.slicc_names.specs.Prelude.{else_if_places, found_after, local_places}
use Rattle.slicc_names.proofs.limits.+locals.Given as goal

abbrev pub invariant-in_statements-loop-s : goal.invariant-in_statements-loop-s
invariant-in_statements-loop-s l = l.found ≡ found_after l.initial.found (flat_map local_places (take l.s-index l.statements))

abbrev pub invariant-in_others-loop-other : goal.invariant-in_others-loop-other
invariant-in_others-loop-other l = l.found ≡ found_after l.initial.found (flat_map else_if_places (take l.other-index l.others))
