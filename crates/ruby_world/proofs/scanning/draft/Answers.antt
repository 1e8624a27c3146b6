use Rattle.ruby_world.proofs.HeldScans.{in-time, may-begin, may-go}
use Rattle.ruby_world.proofs.scanning.draft.Goals as goal

pub on-requires-clause-routes : goal.on-requires-clause-routes
on-requires-clause-routes g c =
    let v = c.args.world.now in
    let lawful = c.settings_are_lawful.ensures.enough v.trees v.topology v.limits.seed v.limits.cycles v.limits.limit v.opening c.law.ensures.fits c.law.ensures.cycles c.law.ensures.enough in
    may-go g.D.Driver.drive g.D.Driver.least v c.args.worker c.args.held.now c.requires lawful

pub on-requires-clause-cycle : goal.on-requires-clause-cycle
on-requires-clause-cycle g c =
    let v = c.args.world.now in
    let h = c.args.held.now in
    let lawful = c.settings_are_lawful.ensures.enough v.trees v.topology v.limits.seed v.limits.cycles v.limits.limit v.opening c.law.ensures.fits c.law.ensures.cycles c.law.ensures.enough in
    let run = c.law.ensures.run in
    let here = c.requires.holding run.0 run.1 in
    in-time g.D.Driver.drive g.D.Driver.least v c.args.worker h c.requires lawful run.0 run.1
    here.held.come.fits

pub on-requires-clause-fits : goal.on-requires-clause-fits
on-requires-clause-fits g c =
    let v = c.args.world.now in
    let h = c.args.held.now in
    let lawful = c.settings_are_lawful.ensures.enough v.trees v.topology v.limits.seed v.limits.cycles v.limits.limit v.opening c.law.ensures.fits c.law.ensures.cycles c.law.ensures.enough in
    let run = c.law.ensures.run in
    let here = c.requires.holding run.0 run.1 in
    may-begin g.D.Driver.drive g.D.Driver.least v c.args.worker h c.requires lawful run.0 run.1
    here.held.come.fits

pub returns : goal.returns
returns g c = c.on.ensures
