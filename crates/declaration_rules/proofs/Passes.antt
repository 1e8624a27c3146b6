-- What is broken by all declarations is what each of them breaks.
use Rattle.std.proofs.Common.{◌≡◌, List, flat_map, ◌∙◌, sym}
use Rattle.slicc_ast.specs.declared.tree.item.Tree.{Tree}
use Rattle.slicc_plan.specs.declared.broken.Broken.{Broken}
use Rattle.slicc_plan.specs.Prelude.{declared_in, wide_scopes, FieldIn, all_fields, fields_of, fields_within, refused_field, refused_field_types, unknown_in, unknown_types, unknown_use, uses_in, bad_field_defaults}
use Rattle.declaration_rules.specs.Prelude.{broken_in, field_default, field_defaults_of, refused_of, unknown_of}
use Rattle.declaration_rules.proofs.Steps.{flat_map-flat_map, flat_map_same}

pub unknown_by_each : (trees : List Tree) → flat_map (broken_in unknown_of trees) (wide_scopes trees) ≡ unknown_types trees
unknown_by_each trees =
    flat_map_same (broken_in unknown_of trees) (unknown_in trees) (wide_scopes trees) (λ scope. sym (flat_map-flat_map (unknown_use trees scope) uses_in (declared_in trees scope)))

-- what each field breaks
pub fields_by_each : (trees : List Tree) (f : FieldIn → List Broken)
    → flat_map (λ scope. flat_map (λ d. flat_map f (fields_of scope d)) (declared_in trees scope)) (wide_scopes trees) ≡ flat_map f (all_fields trees)
fields_by_each trees f =
    flat_map_same (λ scope. flat_map (λ d. flat_map f (fields_of scope d)) (declared_in trees scope)) (λ scope. flat_map f (fields_within trees scope)) (wide_scopes trees)
    (λ scope. sym (flat_map-flat_map f (fields_of scope) (declared_in trees scope)))
    ∙ sym (flat_map-flat_map f (fields_within trees) (wide_scopes trees))

pub refused_by_each : (trees : List Tree) → flat_map (broken_in refused_of trees) (wide_scopes trees) ≡ refused_field_types trees
refused_by_each trees = fields_by_each trees (refused_field trees)

pub defaults_by_each : (trees : List Tree) → flat_map (broken_in field_defaults_of trees) (wide_scopes trees) ≡ bad_field_defaults trees
defaults_by_each trees = fields_by_each trees (field_default trees)
