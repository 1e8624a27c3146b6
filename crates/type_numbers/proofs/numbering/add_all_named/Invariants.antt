use Rattle.std.proofs.Common.{◌≡◌, ◌++◌, filter, flat_map, map, take}
use Rattle.slicc_plan.specs.Prelude.{named_declarations, within, made_in}
use Rattle.type_numbers.specs.Prelude.{has_sort, scoped_of}
use Rattle.type_numbers.proofs.numbering.add_all_named.Given as goal

abbrev pub invariant-loop-d : goal.invariant-loop-d
invariant-loop-d l =
    map scoped_of l.list ≡ map scoped_of l.initial.list ++ flat_map (λ d. filter (has_sort l.sort) (map (made_in (within l.m)) (named_declarations d))) (take l.d-index l.declarations)
