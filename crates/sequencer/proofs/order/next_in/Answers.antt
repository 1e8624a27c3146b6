use Rattle.std.proofs.Common.{sym, ◌∙◌, arith}
use Rattle.sequencer.specs.Prelude.{is_above}
use Rattle.sequencer.proofs.Oldest.{first-found, none-found}
use Rattle.sequencer.proofs.order.next_in.Goals as goal

pub returns-then-is_above-clause-value : goal.returns-then-is_above-clause-value
returns-then-is_above-clause-value c =
    sym (first-found (is_above c.args.line) c.args.requests.now c.loop-a.a-index _ (omega arith) c.loop-a.invariant (sym c.is_above.ensures ∙ c.if-is_above.true))

pub returns-clause-value : goal.returns-clause-value
returns-clause-value c =
    sym (none-found (is_above c.args.line) c.args.requests.now (λ k d lt. c.loop-a.invariant k d (omega arith)))
