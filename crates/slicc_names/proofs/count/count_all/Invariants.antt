use Rattle.std.proofs.Common.{◌≡◌, flat_map, take}
use Rattle.declared_types.specs.Prelude.{declaration_of}
use Rattle.slicc_names.specs.Prelude.{found_after, with_its_own_places}
use Rattle.slicc_names.proofs.count.count_all.Given as goal

abbrev pub invariant-loop-d : goal.invariant-loop-d
invariant-loop-d l = l.found ≡ found_after l.initial.found (flat_map (λ x. with_its_own_places l.kind (declaration_of x)) (take l.d-index l.declarations))
