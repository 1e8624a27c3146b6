use Rattle.std.proofs.Common.{ap, ◌∙◌}
use Rattle.ctl_face.specs.Prelude.{with_one_fired, Ctl}
use Rattle.ctl_store.specs.Prelude.{ctl_of, machine_of, me_of, outcome_ctl}
use Rattle.controller_rows.proofs.Going.{goes_as, same_then}
use Rattle.controller_rows.proofs.steps.apply.Goals as goal

pub returns-clause-goes : goal.returns-clause-goes
returns-clause-goes c =
    let old = c.args.store.now in
    let o = c.args.outcome in
    goes_as old c.apply.new.self c.args.routes.now c.args.now (with_one_fired (outcome_ctl o (ctl_of old)))
    (same_then old c.reserve.new.self c.apply.new.self c.reserve.ensures.store c.apply.ensures.store)
    c.requires.goes.routes_fit
    (c.acts_between_scans_keep_what_holds.ensures.fired (machine_of old) (me_of old) c.args.now (outcome_ctl o (ctl_of old)) c.requires.done.fits)
    (c.apply.ensures.after ∙ ap (λ (ctl : Ctl). with_one_fired (outcome_ctl o ctl)) c.reserve.ensures.same)
