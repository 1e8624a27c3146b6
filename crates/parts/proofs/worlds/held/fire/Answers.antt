use Rattle.std.proofs.Common.{◌==◌}
use Rattle.run_journal.specs.declared.event.Event.TheVariants.{Fire}
use Rattle.parts.proofs.Leaving.{leaves-by, not-on}
use Rattle.parts.proofs.worlds.held.fire.Goals as goal

pub returns-clause-leaves : goal.returns-clause-leaves
returns-clause-leaves g c =
    leaves-by g.D.Driver.drive g.D.Driver.least c.others_stay.ensures c.args.world.now c.fire.new.self (Fire c.args.worker c.args.held.controller) c.args.worker
    c.lawful.ensures c.lawful-2.ensures c.in-Ok.ensures.added (λ other d apart. not-on (c.args.worker == other) (c.args.held.controller == d) apart)
