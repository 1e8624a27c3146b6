use Rattle.std.proofs.Common.{◌≡◌, ◌+◌, ◌-◌, ◌≤◌, length}
use Rattle.random_tester.specs.Prelude.{from}
use Rattle.random_tester.proofs.Taking.{SameEnd}
use Rattle.random_tester.proofs.tester.Tester.take.Given as goal

-- taking goes on to the same end
abbrev pub invariant-loop-k : goal.invariant-loop-k
invariant-loop-k g l = record {
  same : SameEnd l.self (g.S.Seats.view l.seats).kept.seats l.k l.initial.self (g.S.Seats.view l.initial.seats).kept.seats 0;
  issued : (g.S.Seats.view l.seats).kept.issued ≡ (g.S.Seats.view l.initial.seats).kept.issued;
  room : (g.S.Seats.view l.initial.seats).room ≤ (g.S.Seats.view l.seats).room;
  within : l.k ≤ length (g.S.Seats.view l.seats).kept.seats;
}

abbrev pub decreases-loop-k : goal.decreases-loop-k
decreases-loop-k g l =
    length (from l.k (g.S.Seats.view l.seats).kept.seats) + (length (g.S.Seats.view l.seats).kept.seats - l.k)
