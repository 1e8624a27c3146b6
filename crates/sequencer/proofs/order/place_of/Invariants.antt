use Rattle.std.proofs.Common.{ℕ, ◌<◌, get_or}
use Rattle.ruby_value.specs.declared.asked.Asked.{Asked}
use Rattle.sequencer.proofs.order.place_of.Given as goal

abbrev pub invariant-loop-at : goal.invariant-loop-at
invariant-loop-at l = (k : ℕ) (d : Asked) → k < l.at → (get_or l.requests k d).line < l.line
