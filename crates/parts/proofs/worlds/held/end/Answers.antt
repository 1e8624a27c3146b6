use Rattle.std.proofs.Common.{◌==◌, subst, sym}
use Rattle.run_journal.specs.declared.event.Event.TheVariants.{Done}
use Rattle.ruby_world.specs.declared.world.Held.{Held}
use Rattle.ruby_world.specs.Prelude.{Holds, IsScanEnded}
use Rattle.ruby_world.proofs.Views.{rests-held}
use Rattle.parts.proofs.Leaving.{leaves-by, not-on}
use Rattle.parts.proofs.worlds.held.end.Goals as goal

pub finish-requires-clause-holds : goal.finish-requires-clause-holds
finish-requires-clause-holds g c κs within =
    subst (λ (h : Held). Holds g.D.Driver.drive c.args.world.now c.args.worker h) (sym c.rest.ensures)
    (rests-held g.D.Driver.drive c.args.world.now c.args.worker c.args.held c.args.stalled c.requires.holds)

pub finish-requires-clause-ended : goal.finish-requires-clause-ended
finish-requires-clause-ended g c κs within =
    subst (λ (h : Held). IsScanEnded g.D.Driver.drive c.args.world.now h c.args.end) (sym c.rest.ensures) c.requires.ended

pub returns : goal.returns
returns g c =
    let h = c.rest.new.self in
    leaves-by g.D.Driver.drive g.D.Driver.least c.others_stay.ensures c.args.world.now c.finish.new.self (Done c.args.worker h.controller) c.args.worker
    c.lawful.ensures c.lawful-2.ensures c.finish.ensures.added (λ other d apart. not-on (c.args.worker == other) (h.controller == d) apart)
