use Rattle.std.proofs.Common.{◌+◌, ap, ◌∙◌}
use Rattle.ctl_face.specs.Prelude.{with_wake_up, Ctl}
use Rattle.ctl_store.specs.Prelude.{ctl_of, machine_of, me_of}
use Rattle.controller_rows.proofs.Going.{goes_as, same_then}
use Rattle.controller_rows.proofs.steps.wake_again.Goals as goal

pub returns-clause-goes : goal.returns-clause-goes
returns-clause-goes c =
    let old = c.args.store.now in
    goes_as old c.mark.new.self c.args.routes.now c.args.now (with_wake_up (ctl_of old) (c.args.now + 1))
    (same_then old c.room.new.self c.mark.new.self c.room.ensures.store c.mark.ensures.store) c.requires.goes.routes_fit
    (c.acts_between_scans_keep_what_holds.ensures.wake_up (c.args.now + 1) (machine_of old) (me_of old) c.args.now (ctl_of old) c.requires.goes.fits)
    (c.mark.ensures.after ∙ ap (λ (ctl : Ctl). with_wake_up ctl (c.args.now + 1)) c.room.ensures.same)
