use Rattle.std.proofs.Common.{◌==◌}
use Rattle.run_journal.specs.declared.event.Event.TheVariants.{Take}
use Rattle.parts.proofs.Leaving.{leaves-by, leaves-none, not-on}
use Rattle.parts.proofs.worlds.held.take.Goals as goal

pub returns-then-not-can_take-clause-leaves : goal.returns-then-not-can_take-clause-leaves
returns-then-not-can_take-clause-leaves g c = leaves-none g.D.Driver.drive g.D.Driver.least c.args.worker c.args.world.now

pub returns-clause-leaves : goal.returns-clause-leaves
returns-clause-leaves g c =
    leaves-by g.D.Driver.drive g.D.Driver.least c.others_stay.ensures c.args.world.now c.take.new.self (Take c.args.worker c.args.c) c.args.worker
    c.lawful.ensures c.lawful-2.ensures c.in_ok-held.ensures.added (λ other d apart. not-on (c.args.worker == other) (c.args.c == d) apart)
