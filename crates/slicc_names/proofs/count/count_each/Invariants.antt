use Rattle.std.proofs.Common.{◌≡◌, flat_map, take}
use Rattle.slicc_names.specs.Prelude.{found_after}
use Rattle.slicc_names.proofs.count.count_each.Given as goal

abbrev pub invariant-loop-part : goal.invariant-loop-part
invariant-loop-part g l = l.found ≡ found_after l.initial.found (flat_map (g.T.Counted.places l.kind) (take l.part-index l.parts))
