use Rattle.std.proofs.Common.{◌∙◌, ap, sym, flat_map}
use Rattle.std.proofs.lemmas.List.{take_all}
use Rattle.slicc_plan.specs.Buffers.{port_in}
use Rattle.slicc_plan.specs.Prelude.{first_after}
use Rattle.declared_types.specs.Prelude.{declaration_of, declarations_of}
use Rattle.declaration_rules.proofs.Steps.{flat_map-flat_map, one_more}
use Rattle.machine_rules.specs.Prelude.{wrong_port}
use Rattle.machine_rules.proofs.port_rules.judge_declarations.Goals as goal

pub loop-d-preserved : goal.loop-d-preserved
loop-d-preserved c =
    let m = c.args.m in
    let trees = m.scopes.now.trees.now in
    one_more (λ d. flat_map (wrong_port trees m.machine.now) (port_in trees m.number m.machine.now d)) declaration_of
    c.args.declarations.now c.loop-d.d-index c.d-item.result c.args.first c.loop-d.found c.judge_declaration-found.result c.loop-d-test.true c.d-item.is c.judge_declaration-found.ensures c.loop-d.invariant

pub returns : goal.returns
returns c =
    let m = c.args.m in
    let trees = m.scopes.now.trees.now in
    let wrong = wrong_port trees m.machine.now in
    let ports = port_in trees m.number m.machine.now in
    c.loop-d.invariant
    ∙ ap (λ ds. first_after c.args.first (flat_map (λ d. flat_map wrong (ports d)) (declarations_of ds))) (take_all c.loop-d.d-index c.args.declarations.now c.loop-d-test.false)
    ∙ ap (first_after c.args.first) (sym (flat_map-flat_map wrong ports (declarations_of c.args.declarations.now)))
