use Rattle.std.proofs.Common.{ap, ◌∙◌, codes}
use Rattle.slicc_plan.specs.Prelude.{machine_names, FieldIn, first_after, type_in, bad_attributes, bad_field_default, is_right_default}
use Rattle.declared_types.specs.Prelude.{type_of, scope_at}
use Rattle.declaration_rules.proofs.field_rules.FieldDefaultsFieldRule.judge_field.Goals as goal

pub returns-in-Some : goal.returns-in-Some
returns-in-Some c =
    let machines = machine_names c.args.scopes.now.trees.now in
    let scope = scope_at c.args.scopes.now.trees.now c.args.number in
    let f : FieldIn = record { scope = scope; kind = c.args.kind.now; attributes = c.args.attributes.now } in
    c.judge_defaults.ensures
    ∙ ap (λ own. first_after c.args.first (bad_attributes (codes "default") (is_right_default machines own (type_of c.in-Some.t)) c.args.attributes.now)) c.deref-in-Some.ensures
    ∙ ap (λ t. first_after c.args.first (bad_field_default machines f t)) (c.in-Some.ensures ∙ ap (type_in c.args.scopes.now.trees.now scope) c.deref.ensures)
