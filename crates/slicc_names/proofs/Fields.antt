-- The fields of a structure that isn't external.
use Rattle.std.proofs.Common.{◌≡◌, [], false, cond, filter, flat_map, map, sym, ap, ◌∙◌}
use Rattle.std.proofs.lemmas.List.Folds.{flat_map-map}
use Rattle.slicc_ast.specs.declared.tree.declaration.Structure.{Structure}
use Rattle.slicc_plan.specs.Declarations.{structure}
use Rattle.slicc_plan.specs.Prelude.{member, is_external, beyond, fields_in, is_field, most_fields}
use Rattle.slicc_names.proofs.Counts.{beyond_passing}
use Rattle.slicc_names.specs.declared.count.Found.TheVariants.{Left}
use Rattle.slicc_names.specs.Prelude.{field_places, found_after, place_if, told_found}

pub fields_of : (s : Structure) → is_external s ≡ false → told_found (found_after (Left most_fields) (flat_map field_places s.members)) ≡ beyond most_fields (fields_in (structure s))
fields_of s here =
    ap (λ ps. told_found (found_after (Left most_fields) ps)) (sym (flat_map-map (place_if is_field) member s.members))
    ∙ sym (beyond_passing is_field most_fields (map member s.members))
    ∙ ap (λ b. beyond most_fields (cond b [] (filter is_field (map member s.members)))) (sym here)
