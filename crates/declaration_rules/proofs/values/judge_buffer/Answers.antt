use Rattle.std.proofs.Common.{codes}
use Rattle.slicc_plan.specs.Prelude.{bad_attributes, is_either, is_number_within}
use Rattle.std.proofs.Common.{◌++◌}
use Rattle.declaration_rules.proofs.Steps.{one_list_before}
use Rattle.declaration_rules.proofs.values.judge_buffer.Goals as goal

pub returns : goal.returns
returns c =
    let pairs = c.args.pairs.now in
    let network = bad_attributes (codes "network") (is_either (codes "To") (codes "From")) pairs in
    let number = bad_attributes (codes "virtual_network") (is_number_within 0 15) pairs in
    let ordered = bad_attributes (codes "ordered") (is_either (codes "true") (codes "false")) pairs in
    one_list_before c.args.first c.number_attributes-numbered.result c.word_attributes.result (network ++ number) ordered
    (one_list_before c.args.first c.word_attributes-networked.result c.number_attributes-numbered.result network number c.word_attributes-networked.ensures c.number_attributes-numbered.ensures)
    c.word_attributes.ensures
