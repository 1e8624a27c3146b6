use Rattle.std.proofs.Common.{◌≢◌, ◌<◌, ℕ, get_or}
use Rattle.ruby_value.specs.declared.asked.Asked.{Asked}
use Rattle.sequencer.proofs.order.request_in.Given as goal

abbrev pub invariant-loop-a : goal.invariant-loop-a
invariant-loop-a l = (k : ℕ) (d : Asked) → k < l.a-index → (get_or l.requests k d).line ≢ l.line
