use Rattle.std.proofs.Common.{◌∙◌, ap}
use Rattle.slicc_plan.specs.Prelude.{machines_of}
use Rattle.slicc_flow.specs.Sends.{machine_sends}
use Rattle.slicc_flow.proofs.SendLists.{machine_step, machines_end}
use Rattle.slicc_flow.proofs.sends.sends_of.Goals as goal

pub loop-number-preserved : goal.loop-number-preserved
loop-number-preserved c =
    machine_step (machines_of c.args.plan.now) c.args.machines.now c.loop-number.number c.index-machines-number.result c.loop-number.list c.push.new.self c.in_ok-sends.sends
    c.loop-number-test.true c.index-machines-number.is
    (c.in_ok-sends.ensures ∙ ap (machine_sends c.index-machines-number.result) c.machine.ensures) c.in_ok-push.ensures.ok c.loop-number.invariant

pub returns : goal.returns
returns c = machines_end (machines_of c.args.plan.now) c.args.machines.now c.loop-number.number c.loop-number.list c.loop-number-test.false c.loop-number.invariant
