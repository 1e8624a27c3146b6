use Rattle.std.proofs.Common.{◌≡◌, flat_map, take}
use Rattle.slicc_names.specs.Prelude.{field_places, found_after}
use Rattle.slicc_names.proofs.count.count_fields.Given as goal

abbrev pub invariant-loop-m : goal.invariant-loop-m
invariant-loop-m l = l.found ≡ found_after l.initial.found (flat_map field_places (take l.m-index l.members))
