use Rattle.std.proofs.Common.{◌≡◌, ◌-◌, List, [], length, sym, ap, ◌∙◌, arith}
use Rattle.std.specs.VecDeque.{deque_len, deque_capacity}
use Rattle.ruby_value.specs.declared.message.MsgNo.{MsgNo}
use Rattle.stall_map.specs.declared.slots.Slot.{Slot}
use Rattle.stall_map.specs.declared.stalled.Stalled.{Stalled}
use Rattle.stall_map.specs.Prelude.{numbers_of, numbers_under, waiting_of}
use Rattle.stall_map.proofs.Lanes.{fewer, none-under, prepared-without}
use Rattle.stall_map.proofs.waiting.StallMap.wake.Goals as goal

pub returns-in_default-clause-others : goal.returns-in_default-clause-others
returns-in_default-clause-others c =
    let ws : List Stalled = waiting_of c.self.inside.slots.items in
    let none : numbers_under ws c.args.line ≡ [] = sym (c.self.invariant.serves c.args.line).known ∙ ap numbers_of (sym c.remove.ensures.before ∙ c.in_default.is) in
    rw (← c.self.view_is) (sym (none-under ws c.args.line none).1)

pub overflow_sub-self : goal.overflow_sub-self
overflow_sub-self c =
    let ws : List Stalled = waiting_of c.self.inside.slots.items in
    let known : c.in-Some.lane.numbers.items ≡ numbers_under ws c.args.line =
    ap numbers_of (sym c.in-Some.is ∙ c.remove.ensures.before) ∙ (c.self.invariant.serves c.args.line).known in
    omega (arith, ap length known, fewer ws c.args.line, c.self.invariant.count, c.in-Some.lane.numbers.ok, c.len.ensures)

pub invariant_of-self-2 : goal.invariant_of-self-2
invariant_of-self-2 c =
    let slots : List Slot = c.self.inside.slots.items in
    let numbers : List MsgNo = c.in-Some.lane.numbers.items in
    let known : numbers ≡ numbers_under (waiting_of slots) c.args.line =
    ap numbers_of (sym c.in-Some.is ∙ c.remove.ensures.before) ∙ (c.self.invariant.serves c.args.line).known in
    let long : c.len.result ≡ length numbers = omega (arith, c.in-Some.lane.numbers.ok, c.len.ensures) in
    rw (long, c.remove.ensures.after)
    (prepared-without slots c.moved_out-woken.new.slots.items c.drop_empty.new.slots.items c.args.line
    (deque_capacity c.self.inside.slots - deque_len c.self.inside.slots) (deque_capacity c.drop_empty.new.slots - deque_len c.drop_empty.new.slots)
    c.self.inside.waiting numbers c.self.inside.lanes.kept c.self.inside.lanes.room c.remove.new.self.room c.self.inside.pool.items c.self.inside.longest c.self.inside.room
    c.self.invariant (omega (arith, c.moved_out-woken.ensures.len, c.moved_out-woken.ensures.capacity, c.drop_empty.ensures.len, c.drop_empty.ensures.capacity))
    c.remove.ensures.room known (c.moved_out-woken.ensures.others c.args.line (c.deref.ensures.value ∙ known)) c.drop_empty.ensures.same)
