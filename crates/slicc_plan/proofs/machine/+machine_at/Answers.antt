use Rattle.slicc_plan.proofs.MachinesFound.{in_first, in_others}
use Rattle.slicc_plan.proofs.machine.+machine_at.Goals as goal

pub returns-in-Ok : goal.returns-in-Ok
returns-in-Ok t c =
    in_first _ _ _ _ _ _ c.in-len1-up.len_at_least c.first-item.is c.deref.ensures c.in-Ok.ensures.found

pub returns-in-Err : goal.returns-in-Err
returns-in-Err t c =
    in_others _ _ _ _ _ _ _ c.in-len1-up.len_at_least c.first-item.is c.deref.ensures c.in-Err.ensures.passed c.machine_at.ensures
