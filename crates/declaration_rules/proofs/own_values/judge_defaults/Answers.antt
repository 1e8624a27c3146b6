use Rattle.std.proofs.Common.{◌∙◌, ap, codes, flat_map}
use Rattle.std.proofs.lemmas.List.{take_all}
use Rattle.slicc_plan.specs.Prelude.{machine_names, first_after, is_right_default}
use Rattle.declared_types.specs.Prelude.{type_of}
use Rattle.declaration_rules.specs.Prelude.{bad_pair}
use Rattle.declaration_rules.proofs.EachPair.{by_each_pair}
use Rattle.declaration_rules.proofs.Steps.{one_step}
use Rattle.declaration_rules.proofs.own_values.judge_defaults.Goals as goal

pub loop-p-preserved : goal.loop-p-preserved
loop-p-preserved c =
    one_step (bad_pair (codes "default") (is_right_default (machine_names c.args.scopes.now.trees.now) c.args.own.now (type_of c.args.t)))
    c.as_slice-items.result.now c.loop-p.p-index c.p-item.result c.args.first c.loop-p.first c.judge_pair-first.result c.loop-p-test.true c.p-item.is c.judge_pair-first.ensures c.loop-p.invariant

pub returns : goal.returns
returns c =
    let items = c.as_slice-items.result.now in
    let is_right = is_right_default (machine_names c.args.scopes.now.trees.now) c.args.own.now (type_of c.args.t) in
    c.loop-p.invariant
    ∙ ap (λ ps. first_after c.args.first (flat_map (bad_pair (codes "default") is_right) ps)) (take_all c.loop-p.p-index items c.loop-p-test.false)
    ∙ ap (first_after c.args.first) (by_each_pair (codes "default") is_right items c.args.pairs.now c.as_slice-items.ensures)
