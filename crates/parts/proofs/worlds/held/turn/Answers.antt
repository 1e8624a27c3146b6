use Rattle.std.proofs.Common.{refl}
use Rattle.run_journal.specs.declared.event.Event.TheVariants.{Turn}
use Rattle.parts.proofs.Leaving.{leaves-by, leaves-none}
use Rattle.parts.proofs.worlds.held.turn.Goals as goal

pub returns-then-not-can_turn : goal.returns-then-not-can_turn
returns-then-not-can_turn g c = leaves-none g.D.Driver.drive g.D.Driver.least c.args.worker c.args.world.now

pub returns : goal.returns
returns g c =
    leaves-by g.D.Driver.drive g.D.Driver.least c.others_stay.ensures c.args.world.now c.turn.new.self (Turn c.args.worker) c.args.worker c.lawful.ensures
    c.lawful-2.ensures c.in_ok-turn.ensures.added (λ other d apart. refl)
