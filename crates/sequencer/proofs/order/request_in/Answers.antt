use Rattle.std.proofs.Common.{arith}
use Rattle.sequencer.proofs.Lines.{request-first, request-nowhere}
use Rattle.sequencer.proofs.order.request_in.Goals as goal

pub returns-then-a-line-clause-value : goal.returns-then-a-line-clause-value
returns-then-a-line-clause-value c =
    request-first c.args.requests.now c.args.line c.loop-a.a-index _ (omega arith) c.loop-a.invariant c.if-a-line.true

pub returns-clause-value : goal.returns-clause-value
returns-clause-value c =
    request-nowhere c.args.requests.now c.args.line (λ k d lt. c.loop-a.invariant k d (omega arith))
