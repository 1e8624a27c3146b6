use Rattle.slicc_plan.proofs.MachinesFound.{found_at}
use Rattle.slicc_plan.proofs.machine.machine_among.Goals as goal

pub returns-then-left-eq0-clause-found : goal.returns-then-left-eq0-clause-found
returns-then-left-eq0-clause-found c =
    found_at _ _ _ _ _ _ c.loop-item-test.true c.item-item.is c.in-Machine.is c.if-left-eq0.true c.loop-item.invariant
