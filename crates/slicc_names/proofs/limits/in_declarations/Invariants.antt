use Rattle.std.proofs.Common.{◌≡◌, flat_map, take}
use Rattle.declared_types.specs.Prelude.{declaration_of}
use Rattle.slicc_plan.specs.Prelude.{beyond_in_declaration, first_after}
use Rattle.slicc_names.proofs.limits.in_declarations.Given as goal

abbrev pub invariant-loop-d : goal.invariant-loop-d
invariant-loop-d l = l.first ≡ first_after l.initial.first (flat_map (λ x. beyond_in_declaration (declaration_of x)) (take l.d-index l.declarations))
