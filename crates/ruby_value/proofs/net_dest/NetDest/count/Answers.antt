use Rattle.std.proofs.Common.{◌≤◌, count_ones, arith}
use lib.Count.{ones-le}
use Rattle.ruby_value.proofs.Words.{counted, increasing}
use Rattle.ruby_value.proofs.net_dest.NetDest.count.Goals as goal

pub overflow_add-result : goal.overflow_add-result
overflow_add-result c =
    let few : count_ones c.self.inside.near ≤ 64 = ones-le 64 c.self.inside.near c.self.invariant.0 in
    omega arith

pub returns-clause-value : goal.returns-clause-value
returns-clause-value c =
    rw (c.from.ensures, c.len.ensures.len, ← c.self.view_is) (counted c.self.inside.near c.self.inside.far c.self.invariant.1 c.self.invariant.0)

pub returns-clause-increasing : goal.returns-clause-increasing
returns-clause-increasing c =
    rw (← c.self.view_is) (increasing c.self.inside.near c.self.inside.far c.self.invariant.1 c.len.ensures.increasing)
