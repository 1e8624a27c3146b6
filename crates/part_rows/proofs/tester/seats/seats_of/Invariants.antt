use Rattle.std.proofs.Common.{◌≡◌, ◌+◌, ◌*◌, vec_len}
use Rattle.std.specs.List.{AllPairs}
use Rattle.sequencer.specs.Prelude.{seats_of, AreApart}
use Rattle.part_rows.proofs.Apart.{AreBelow}
use Rattle.part_rows.proofs.tester.seats.seats_of.Given as goal

abbrev pub invariant-loop-sequencer : goal.invariant-loop-sequencer
invariant-loop-sequencer l = record {
  len : vec_len l.seats ≡ l.sequencer-index;
  below : AreBelow (2 * l.sequencer-index + 1) l.seats.items;
  apart : AllPairs AreApart (seats_of l.seats.items);
}
