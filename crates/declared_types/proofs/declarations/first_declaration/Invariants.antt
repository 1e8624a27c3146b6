use Rattle.std.proofs.Common.{◌≡◌, drop, find, flat_map}
use Rattle.slicc_plan.specs.Prelude.{is_named, named_declarations}
use Rattle.declared_types.proofs.declarations.first_declaration.Given as goal

abbrev pub invariant-loop-d : goal.invariant-loop-d
invariant-loop-d l =
    find (is_named l.name) (flat_map named_declarations l.declarations) ≡ find (is_named l.name) (flat_map named_declarations (drop l.d-index l.declarations))
