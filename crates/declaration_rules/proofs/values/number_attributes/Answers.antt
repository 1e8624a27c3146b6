use Rattle.std.proofs.Common.{◌∙◌, ap, flat_map}
use Rattle.std.proofs.lemmas.List.{take_all}
use Rattle.slicc_plan.specs.Prelude.{first_after, is_number_within}
use Rattle.declaration_rules.specs.Prelude.{bad_pair}
use Rattle.declaration_rules.proofs.EachPair.{by_each_pair}
use Rattle.declaration_rules.proofs.Steps.{one_step}
use Rattle.declaration_rules.proofs.values.number_attributes.Goals as goal

pub loop-p-preserved : goal.loop-p-preserved
loop-p-preserved c =
    one_step (bad_pair c.args.key.now (is_number_within c.args.low c.args.high))
    c.as_slice-items.result.now c.loop-p.p-index c.p-item.result c.args.first c.loop-p.first c.judge_number_pair-first.result c.loop-p-test.true c.p-item.is c.judge_number_pair-first.ensures c.loop-p.invariant

pub returns : goal.returns
returns c =
    let items = c.as_slice-items.result.now in
    c.loop-p.invariant
    ∙ ap (λ ps. first_after c.args.first (flat_map (bad_pair c.args.key.now (is_number_within c.args.low c.args.high)) ps)) (take_all c.loop-p.p-index items c.loop-p-test.false)
    ∙ ap (first_after c.args.first) (by_each_pair c.args.key.now (is_number_within c.args.low c.args.high) items c.args.pairs.now c.as_slice-items.ensures)
