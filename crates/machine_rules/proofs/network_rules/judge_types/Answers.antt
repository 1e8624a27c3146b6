use Rattle.std.proofs.Common.{[], refl, ap, map, ◌∙◌}
use Rattle.std.specs.List.{list_any}
use Rattle.std.proofs.lemmas.List.{take_all}
use Rattle.slicc_plan.specs.Prelude.{differ, differing_after, port_broken, first_after}
use Rattle.machine_table.specs.Prelude.{port_seen}
use Rattle.machine_rules.proofs.Walks.{walk_step}
use Rattle.machine_rules.proofs.network_rules.judge_types.Goals as goal

pub loop-k-preserved : goal.loop-k-preserved
loop-k-preserved c =
    walk_step differing_after (λ before p. port_broken (list_any (differ p) before) p) (λ b. refl) (λ b xs x. refl) port_seen
    c.loop-k.k c.index-ports-k.result c.args.ports.now c.args.first c.loop-k.found c.judge_port-found.result
    c.loop-k-test.true c.index-ports-k.is c.loop-k.invariant c.judge_port-found.ensures

pub returns : goal.returns
returns c =
    c.loop-k.invariant ∙ ap (λ ps. first_after c.args.first (differing_after [] (map port_seen ps))) (take_all c.loop-k.k c.args.ports.now c.loop-k-test.false)
