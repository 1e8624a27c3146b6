use Rattle.ctl_tables.proofs.Replaying.{opened_one}
use Rattle.ctl_tables.proofs.tables.open_all.Goals as goal

pub loop-setup-preserved : goal.loop-setup-preserved
loop-setup-preserved c =
    opened_one c.loop-setup.tables.items c.push.new.self.items c.args.setups.now c.loop-setup.setup-index c.setup-item.result c.in_ok-opening.field-0 c.loop-setup.invariant c.in_ok-push.ensures.items c.setup-item.is c.loop-setup-test.true c.in_ok-opening.ensures
