use Rattle.std.proofs.Common.{ap, arith, flat_map, ◌∙◌}
use Rattle.std.proofs.lemmas.List.{take_all}
use Rattle.slicc_plan.specs.Prelude.{broken_in_declaration, declared_in, first_after}
use Rattle.declared_types.specs.Prelude.{declaration_of, declarations_of}
use Rattle.body_rules.proofs.Lists.{one_step_seen}
use Rattle.body_rules.proofs.declarations.judge_machine.Goals as goal

pub loop-d-preserved : goal.loop-d-preserved
loop-d-preserved c =
    one_step_seen (broken_in_declaration c.args.m.scopes.now.trees.now c.args.m.lines.machine.now) declaration_of
    c.declarations-d-items.result.now c.loop-d.d-index c.d-item.result c.args.first c.loop-d.found c.in_ok-more.more c.earlier_of_two-found.result c.loop-d-test.true c.d-item.is c.in_ok-more.ensures c.earlier_of_two-found.ensures c.loop-d.invariant

pub returns : goal.returns
returns c =
    let trees = c.args.m.scopes.now.trees.now in
    let f = broken_in_declaration trees c.args.m.lines.machine.now in
    let first = c.args.first in
    c.loop-d.invariant
    ∙ ap (λ ds. first_after first (flat_map f (declarations_of ds))) (take_all c.loop-d.d-index c.declarations-d-items.result.now (omega arith))
    ∙ ap (λ ds. first_after first (flat_map f ds)) (c.declarations-d-items.ensures ∙ ap (declared_in trees) c.requires.scope)
