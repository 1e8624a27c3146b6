use Rattle.std.proofs.Common.{◌≡◌, ◌+◌, ◌≤◌, drop, length}
use Rattle.controller_rows.proofs.Issuing.{after_each}
use Rattle.controller_rows.proofs.script.issue_each.Given as goal

-- issuing the rest comes to the same seats
abbrev pub invariant-loop-i : goal.invariant-loop-i
invariant-loop-i g l = record {
  on : after_each l.now (g.S.Seats.view l.seats).kept (drop l.i-index l.requests) ≡ after_each l.now (g.S.Seats.view l.initial.seats).kept l.requests;
  room : length l.requests ≤ l.i-index + (g.S.Seats.view l.seats).room;
}
