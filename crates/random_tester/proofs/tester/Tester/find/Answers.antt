use Rattle.std.proofs.Common.{ℕ, ◌≤◌, List, length, subst, sym}
use Rattle.std.specs.List.{All}
use Rattle.sequencer.specs.Prelude.{FitsSeat, Seat}
use Rattle.sequencer.proofs.SeatsAfter.{fit-after, length-kept}
use Rattle.random_tester.specs.Prelude.{finished_from, took}
use Rattle.random_tester.proofs.tester.Tester.find.Goals as goal

pub first_late-requires : goal.first_late-requires
first_late-requires g c =
    subst (λ (xs : List Seat). All FitsSeat xs) (sym c.take.ensures.seats)
    (fit-after (g.S.Seats.view c.args.seats.now).kept.seats (took c.args.self.now (finished_from 0 (g.S.Seats.view c.args.seats.now).kept.seats)).taken c.requires.seats.each)

pub act-requires-clause-seats : goal.act-requires-clause-seats
act-requires-clause-seats g c =
    subst (λ (xs : List Seat). 1 ≤ length xs) (sym c.take.ensures.seats)
    (subst (λ (n : ℕ). 1 ≤ n)
    (sym (length-kept (g.S.Seats.view c.args.seats.now).kept.seats (took c.args.self.now (finished_from 0 (g.S.Seats.view c.args.seats.now).kept.seats)).taken))
    c.requires.seats.enough)
