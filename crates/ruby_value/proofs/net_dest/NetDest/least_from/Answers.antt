use Rattle.std.proofs.Common.{arith}
use Rattle.ruby_value.proofs.Words.{least_far, lowest_from, none_left}
use Rattle.ruby_value.proofs.net_dest.NetDest.least_from.Goals as goal

pub returns-then-m-ge64 : goal.returns-then-m-ge64
returns-then-m-ge64 c =
    rw (c.least_from.ensures, ← c.self.view_is)
    (least_far c.self.inside.near c.self.inside.far c.self.invariant.1 c.args.m (λ i le lt. absurd (let past = c.if-m-ge64.true in omega arith)))

pub returns-then-left-eq0 : goal.returns-then-left-eq0
returns-then-left-eq0 c =
    rw (c.least_from-then-left-eq0.ensures, ← c.self.view_is) (none_left c.self.inside.near c.self.inside.far c.self.invariant.1 c.args.m c.if-left-eq0.true)

pub returns : goal.returns
returns c =
    rw (← c.self.view_is) (lowest_from c.self.inside.near c.self.inside.far c.self.invariant.1 c.self.invariant.0 c.args.m c.if-left-eq0.false)
