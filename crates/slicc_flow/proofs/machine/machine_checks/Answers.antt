use Rattle.std.proofs.Common.{◌≤◌, length, subst}
use Rattle.slicc_flow.proofs.Checked.{checks_all}
use Rattle.slicc_flow.proofs.machine.machine_checks.Goals as goal

pub returns : goal.returns
returns c =
    checks_all c.args.names.now c.args.actions.now c.args.m.now.declarations c.loop-d.d-index c.loop-d.list
    (subst (λ xs. length xs ≤ c.loop-d.d-index) c.as_slice-d-items.ensures c.loop-d-test.false) c.loop-d.invariant
