use Rattle.sequencer.proofs.SeatsAfter.{still-fit}
use Rattle.controller_rows.specs.Prelude.{script_lawful, script_drive, script_needs}
use Rattle.controller_rows.proofs.script.ScriptDriver.turn.Goals as goal

pub returns-clause-fit : goal.returns-clause-fit
returns-clause-fit g c =
    rw c.act.ensures
    (still-fit 0 (script_needs c.args.self.now c.args.now) c.args.now (g.S.Seats.view c.args.seats.now).kept (script_drive c.args.self.now (g.S.Seats.view c.args.seats.now).kept.seats c.args.now)
    (script_lawful c.args.self.now (g.S.Seats.view c.args.seats.now).kept c.args.now c.requires.seats c.requires.cycle) c.requires.seats)
