use Rattle.std.specs.Option.{option_map}
use Rattle.slicc_plan.specs.Prelude.{bad_literal, bad_object_attributes}
use Rattle.declared_types.specs.Prelude.{type_of}
use Rattle.declaration_rules.proofs.Steps.{one_list_before}
use Rattle.declaration_rules.proofs.own_values.judge_parameter.Goals as goal

pub returns : goal.returns
returns c =
    let t = option_map type_of c.args.t in
    one_list_before c.args.first c.judge_literal-first.result c.judge_object_attributes.result (bad_literal t c.args.p.now.literal) (bad_object_attributes t c.args.p.now.pairs) c.judge_literal-first.ensures c.judge_object_attributes.ensures
