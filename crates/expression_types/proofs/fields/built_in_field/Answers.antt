use Rattle.std.proofs.Common.{◌∙◌, ap, find, sym}
use Rattle.std.specs.Option.{option_map}
use Rattle.std.specs.Str.{bytes_eq}
use Rattle.slicc_plan.specs.declared.built_in.BuiltInType.{BuiltInType}
use Rattle.slicc_plan.specs.Prelude.{NamedType, request_fields, built_in_field, value, built_in}
use Rattle.expression_types.proofs.Requests.{mapped}
use Rattle.expression_types.proofs.fields.built_in_field.Goals as goal

pub returns-in-Some : goal.returns-in-Some
returns-in-Some c =
    ap (option_map (λ (b : BuiltInType). value (built_in b))) (sym c.in-Some.is ∙ c.request_field.ensures)
    ∙ mapped (find (λ (f : NamedType). bytes_eq f.name c.args.text.now) request_fields)
    ∙ ap (λ b. built_in_field b c.args.text.now) (sym c.in-Request.is)
