use Rattle.std.proofs.Common.{arith}
use Rattle.sequencer.proofs.Lines.{place-found}
use Rattle.sequencer.proofs.order.place_of.Goals as goal

pub returns-then-a-line : goal.returns-then-a-line
returns-then-a-line c =
    place-found c.args.requests.now c.args.line c.loop-at.at _ c.requires (omega arith) c.loop-at.invariant c.if-a-line.true
