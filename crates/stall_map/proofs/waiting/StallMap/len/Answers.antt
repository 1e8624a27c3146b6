use Rattle.std.proofs.Common.{arith}
use Rattle.stall_map.proofs.Orders.{ascends, no-more}
use Rattle.stall_map.proofs.waiting.StallMap.len.Goals as goal

pub returns-clause-order : goal.returns-clause-order
returns-clause-order c = rw (← c.self.view_is) (ascends c.self.inside.slots.items c.self.invariant.order)

pub returns-clause-small : goal.returns-clause-small
returns-clause-small c = omega (arith, c.self.invariant.count, no-more c.self.inside.slots.items, c.self.inside.slots.ok, c.self.inside.slots.small)
