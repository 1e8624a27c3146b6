use Rattle.std.proofs.Common.{◌-◌, arith}
use Rattle.ctl_face.specs.Prelude.{at_cycle}
use Rattle.ctl_store.specs.Prelude.{ctl_of, machine_of, me_of}
use Rattle.controller_rows.proofs.Going.{goes_as}
use Rattle.controller_rows.proofs.steps.begin.Goals as goal

pub returns-clause-goes : goal.returns-clause-goes
returns-clause-goes c =
    let old = c.args.store.now in
    goes_as old c.begin.new.self c.args.routes.now c.args.now (at_cycle (ctl_of old) c.args.now) c.begin.ensures.store c.requires.goes.routes_fit
    (c.acts_between_scans_keep_what_holds.ensures.cycle (machine_of old) (me_of old) (c.args.now - 1) c.args.now (ctl_of old) (omega (arith, c.requires.later)) c.requires.goes.fits)
    c.begin.ensures.after
