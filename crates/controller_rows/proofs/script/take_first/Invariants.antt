use Rattle.std.proofs.Common.{◌≡◌, ◌≤◌, length}
use Rattle.sequencer.specs.Prelude.{after_taking}
use Rattle.controller_rows.specs.Prelude.{first_answers}
use Rattle.controller_rows.proofs.Taking.{EndsAt}
use Rattle.controller_rows.proofs.script.take_first.Given as goal

-- taking at the seats that are left comes to the same end
abbrev pub invariant-loop-k : goal.invariant-loop-k
invariant-loop-k g l = record {
  on : EndsAt (length (g.S.Seats.view l.initial.seats).kept.seats) l.k (g.S.Seats.view l.seats).kept.seats
      (after_taking (g.S.Seats.view l.initial.seats).kept.seats
      (first_answers (length (g.S.Seats.view l.initial.seats).kept.seats) 0 (g.S.Seats.view l.initial.seats).kept.seats));
  count : length (g.S.Seats.view l.seats).kept.seats ≡ length (g.S.Seats.view l.initial.seats).kept.seats;
  issued : (g.S.Seats.view l.seats).kept.issued ≡ (g.S.Seats.view l.initial.seats).kept.issued;
  room : (g.S.Seats.view l.initial.seats).room ≤ (g.S.Seats.view l.seats).room;
}
