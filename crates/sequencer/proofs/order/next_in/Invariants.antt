use Rattle.std.proofs.Common.{◌≡◌, ◌<◌, ℕ, false, get_or}
use Rattle.ruby_value.specs.declared.asked.Asked.{Asked}
use Rattle.sequencer.specs.Prelude.{is_above}
use Rattle.sequencer.proofs.order.next_in.Given as goal

abbrev pub invariant-loop-a : goal.invariant-loop-a
invariant-loop-a l = (k : ℕ) (d : Asked) → k < l.a-index → is_above l.line (get_or l.requests k d) ≡ false
