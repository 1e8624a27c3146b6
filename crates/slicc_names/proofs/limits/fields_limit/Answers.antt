use Rattle.std.proofs.Common.{sym, ap, ◌∙◌, flat_map}
use Rattle.declared_types.specs.Prelude.{declaration_of}
use Rattle.slicc_plan.specs.Prelude.{beyond, fields_in, most_fields, first_after}
use Rattle.slicc_names.specs.Prelude.{field_places, found_after, told_found}
use Rattle.slicc_names.specs.declared.count.Found.TheVariants.{Left}
use Rattle.slicc_names.proofs.Fields.{fields_of}
use Rattle.slicc_names.proofs.limits.fields_limit.Goals as goal

pub returns-else-is_external : goal.returns-else-is_external
returns-else-is_external c =
    c.limit_at.ensures ∙ ap (λ f. first_after c.args.first (told_found f)) c.count_fields.ensures
    ∙ ap (λ ms. first_after c.args.first (told_found (found_after (Left most_fields) (flat_map field_places ms)))) c.deref.ensures
    ∙ ap (first_after c.args.first) (fields_of c.in-Structure.s.now (sym c.is_external.ensures ∙ c.if-is_external.false))
    ∙ ap (λ d. first_after c.args.first (beyond most_fields (fields_in (declaration_of d)))) (sym c.in-Structure.is)
