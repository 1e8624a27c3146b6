use Rattle.std.proofs.Common.{◌≡◌, ℕ, ◌+◌, ◌*◌, ◌≤◌, ◌<◌, drop, length, slice_index}
use Rattle.pair_table.specs.Prelude.{first_at}
use Rattle.pair_table.proofs.places.first_numbers.Given as goal

abbrev pub invariant-loop-number : goal.invariant-loop-number
invariant-loop-number l = record {
  within : l.number ≤ length l.ws;
  room : length l.firsts.items ≡ l.states * l.events;
  firsts : (place : ℕ) → place < l.states * l.events → slice_index l.firsts.items place ≡ l.number + first_at l.events (drop l.number l.ws) place;
}

abbrev pub decreases-loop-number : goal.decreases-loop-number
decreases-loop-number l = l.number
