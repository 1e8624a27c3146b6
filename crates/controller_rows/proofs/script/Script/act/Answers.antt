use Rattle.std.proofs.Common.{List, length, ap, ◌∙◌}
use Rattle.sequencer.specs.declared.issued.Issued.{Issued}
use Rattle.sequencer.specs.Prelude.{after_taking, Seat}
use Rattle.controller_rows.specs.Prelude.{due, first_answers, left}
use Rattle.controller_rows.proofs.Issuing.{after-both, after_each}
use Rattle.controller_rows.proofs.script.Script.act.Goals as goal

pub returns : goal.returns
returns g c =
    let first : List Seat = (g.S.Seats.view c.args.seats.now).kept.seats in
    after-both c.args.now (g.S.Seats.view c.args.seats.now).kept (g.S.Seats.view c.take_first.new.seats).kept (g.S.Seats.view c.issue_each.new.seats).kept
    (after_taking first (first_answers (length first) 0 first)) (due c.args.now (left c.args.self.now)) c.take_first.ensures.seats c.take_first.ensures.issued
    (c.issue_each.ensures ∙ ap (λ (is : List Issued). after_each c.args.now (g.S.Seats.view c.take_first.new.seats).kept is) c.due.ensures)
