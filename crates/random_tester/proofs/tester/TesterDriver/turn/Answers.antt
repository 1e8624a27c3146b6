use Rattle.sequencer.proofs.SeatsAfter.{still-fit}
use Rattle.random_tester.specs.Prelude.{tester_lawful, tester_drive, tester_needs}
use Rattle.random_tester.proofs.tester.TesterDriver.turn.Goals as goal

pub returns-clause-fit : goal.returns-clause-fit
returns-clause-fit g c =
    rw c.find-finding.ensures.seats
    (still-fit 1 (tester_needs c.args.self.now c.args.now) c.args.now (g.S.Seats.view c.args.seats.now).kept (tester_drive c.args.self.now (g.S.Seats.view c.args.seats.now).kept.seats c.args.now)
    (tester_lawful c.args.self.now (g.S.Seats.view c.args.seats.now).kept c.args.now c.requires.seats c.requires.cycle) c.requires.seats)
