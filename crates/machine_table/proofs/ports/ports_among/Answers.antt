use Rattle.std.proofs.Common.{◌++◌, ◌∙◌, ap, map, sym}
use Rattle.std.proofs.lemmas.List.{take_all}
use Rattle.slicc_plan.specs.Prelude.{ports_of, all_ports_from}
use Rattle.machine_table.proofs.AllPorts.{ports_step}
use Rattle.machine_table.proofs.ports.ports_among.Goals as goal

pub loop-number-preserved : goal.loop-number-preserved
loop-number-preserved c =
    let trees = c.args.scopes.now.trees.now in
    let m = c.index-machines-number.result in
    c.in_ok-add_ports_of.ensures
    ∙ ap (λ ps. ps ++ ports_of trees c.loop-number.number m.now) c.loop-number.invariant
    ∙ sym (ports_step (λ m. m.now) trees c.args.machines.now c.loop-number.number m c.loop-number-test.true c.index-machines-number.is)

pub returns : goal.returns
returns c =
    c.loop-number.invariant ∙ ap (λ ms. all_ports_from c.args.scopes.now.trees.now 0 (map (λ m. m.now) ms)) (take_all c.loop-number.number c.args.machines.now c.loop-number-test.false)
