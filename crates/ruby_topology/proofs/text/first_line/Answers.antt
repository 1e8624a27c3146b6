use Rattle.std.proofs.Common.{arith}
use Rattle.ruby_topology.proofs.Texts.{line_at, lines_none}
use Rattle.ruby_topology.proofs.text.first_line.Goals as goal

pub returns-then-b-eq10-clause-line : goal.returns-then-b-eq10-clause-line
returns-then-b-eq10-clause-line c =
    line_at c.args.bytes.now c.loop-i.i (omega arith) c.loop-i.invariant c.if-b-eq10.true

pub returns-clause-line : goal.returns-clause-line
returns-clause-line c =
    lines_none c.args.bytes.now c.requires (λ k lt. c.loop-i.invariant k (omega arith))
