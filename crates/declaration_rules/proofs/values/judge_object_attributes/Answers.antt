use Rattle.std.proofs.Common.{◌∙◌, ap, [], cond}
use Rattle.std.specs.Option.{option_map}
use Rattle.slicc_plan.specs.declared.built_in.BuiltInType.TheVariants.{Buffer, TbeTable}
use Rattle.slicc_plan.specs.Prelude.{first_after, is_built_in, bad_buffer_attributes, bad_entries}
use Rattle.declared_types.specs.Prelude.{type_of}
use Rattle.declaration_rules.proofs.Steps.{one_list_before}
use Rattle.declaration_rules.proofs.values.judge_object_attributes.Goals as goal

pub returns : goal.returns
returns c =
    let pairs = c.args.pairs.now in
    let t = option_map type_of c.args.t in
    one_list_before c.args.first c.judge_if_buffer-first.result c.judge_if_table.result (cond (is_built_in Buffer t) (bad_buffer_attributes pairs) []) (cond (is_built_in TbeTable t) (bad_entries pairs) [])
    (c.judge_if_buffer-first.ensures ∙ ap (λ b. first_after c.args.first (cond b (bad_buffer_attributes pairs) [])) c.is_built_in.ensures)
    (c.judge_if_table.ensures ∙ ap (λ b. first_after c.judge_if_buffer-first.result (cond b (bad_entries pairs) [])) c.is_built_in-2.ensures)
