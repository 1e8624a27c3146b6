use Rattle.std.proofs.Common.{◌≡◌, ◌≤◌, ◌+◌, None, take}
use Rattle.ctl_mail.specs.Prelude.{with_moves}
use Rattle.ctl_mail.proofs.wakes.put_back_moves.Given as goal

abbrev pub invariant-loop-number : goal.invariant-loop-number
invariant-loop-number l = record {
  so_far : l.moves.kept ≡ with_moves l.initial.moves.kept None (take l.number-index l.numbers);
  room : l.initial.moves.room ≤ l.moves.room + l.number-index;
}
