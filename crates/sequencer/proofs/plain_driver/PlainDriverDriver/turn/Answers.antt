use Rattle.sequencer.specs.Prelude.{plain_drive, plain_needs, plain_lawful}
use Rattle.sequencer.proofs.SeatsAfter.{still-fit}
use Rattle.sequencer.proofs.plain_driver.PlainDriverDriver.turn.Goals as goal

pub returns-clause-fit : goal.returns-clause-fit
returns-clause-fit g c =
    rw c.act.ensures
    (still-fit 1 (plain_needs c.args.self.now c.args.now) c.args.now (g.S.Seats.view c.args.seats.now).kept (plain_drive c.args.self.now (g.S.Seats.view c.args.seats.now).kept.seats c.args.now)
    (plain_lawful c.args.self.now (g.S.Seats.view c.args.seats.now).kept c.args.now c.requires.seats c.requires.cycle) c.requires.seats)
