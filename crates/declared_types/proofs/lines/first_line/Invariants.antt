use Rattle.std.proofs.Common.{◌≡◌, drop, find, flat_map}
use Rattle.slicc_plan.specs.Prelude.{structure_in}
use Rattle.declared_types.specs.Prelude.{declarations_of, is_of_sort}
use Rattle.declared_types.proofs.lines.first_line.Given as goal

abbrev pub invariant-loop-d : goal.invariant-loop-d
invariant-loop-d l =
    find (is_of_sort l.sort) (flat_map structure_in (declarations_of l.declarations)) ≡ find (is_of_sort l.sort) (flat_map structure_in (declarations_of (drop l.d-index l.declarations)))
