use Rattle.std.proofs.Common.{◌≡◌, ◌≢◌, ◌+◌, ◌-◌, Some, List, insert, refl, sym, ap, subst, ◌∙◌, arith}
use Rattle.std.specs.List.{All, AllPairs}
use Rattle.std.specs.VecDeque.{deque_len, deque_capacity}
use Rattle.ruby_value.specs.declared.message.MsgNo.{MsgNo}
use Rattle.ruby_value.specs.Prelude.{IsBefore, Roomy}
use Rattle.stall_map.specs.declared.slots.Slot.{Slot}
use Rattle.stall_map.specs.declared.stalled.Stalled.{Stalled}
use Rattle.stall_map.specs.Prelude.{IsNew, waiting_of, with_stalled}
use Rattle.stall_map.proofs.Lanes.{All-numbers, numbers-ascend, ok-holds, prepared-with}
use Rattle.stall_map.proofs.Orders.{ascends, no-more, waiting-with}
use Rattle.stall_map.proofs.waiting.StallMap.put_reserved.Goals as goal

pub add_number-count-requires-clause-ascends : goal.add_number-count-requires-clause-ascends
add_number-count-requires-clause-ascends c =
    let ws : List Stalled = waiting_of c.self.inside.slots.items in
    subst (AllPairs IsBefore) (sym (c.self.invariant.serves c.args.line).known) (numbers-ascend c.args.line ws (ascends c.self.inside.slots.items c.self.invariant.order))

pub add_number-count-requires-clause-new : goal.add_number-count-requires-clause-new
add_number-count-requires-clause-new c =
    let ws : List Stalled = waiting_of c.self.inside.slots.items in
    let new : IsNew ws c.args.m.number = subst (λ (r : Roomy (List Stalled)). IsNew r.kept c.args.m.number) (sym c.self.view_is) c.requires.new in
    subst (All (λ (n : MsgNo). n ≢ c.args.m.number)) (sym (c.self.invariant.serves c.args.line).known)
    (All-numbers (λ (n : MsgNo). n ≢ c.args.m.number) c.args.line ws new)

pub overflow_add-self : goal.overflow_add-self
overflow_add-self c = omega (arith, c.self.invariant.count, no-more c.self.inside.slots.items, c.self.inside.slots.ok, c.self.inside.slots.small)

pub invariant_of-self : goal.invariant_of-self
invariant_of-self c =
    let slots : List Slot = c.self.inside.slots.items in
    let s : Stalled = record { line = c.args.line; message = c.args.m } in
    let slot : Slot = record { number = c.args.m.number; held = Some s } in
    let new : IsNew (waiting_of slots) c.args.m.number = subst (λ (r : Roomy (List Stalled)). IsNew r.kept c.args.m.number) (sym c.self.view_is) c.requires.new in
    let fine = sym c.is_err.ensures.value ∙ c.if-is_err.false in
    let put : c.insert.new.self.items ≡ insert slots c.count_up_to-at.result slot = ok-holds c.insert.result fine c.insert.ensures.items in
    let longer : deque_len c.insert.new.self ≡ deque_len c.self.inside.slots + 1 = ok-holds c.insert.result fine c.insert.ensures.len in
    let room : c.self.inside.room ≡ c.args.self.now.room = ap (λ (r : Roomy (List Stalled)). r.room) c.self.view_is in
    rw (put, c.max-self-inside.ensures)
    (prepared-with slots c.args.m.number c.count_up_to-at.result s slot
    (deque_capacity c.self.inside.slots - deque_len c.self.inside.slots) (deque_capacity c.insert.new.self - deque_len c.insert.new.self) c.self.inside.waiting
    c.self.inside.lanes.kept c.add_number-count.new.lanes.kept c.self.inside.lanes.room c.add_number-count.new.lanes.room
    c.self.inside.pool.items c.pop.new.self.items c.in-Some.empty c.self.inside.longest c.add_number-count.result c.self.inside.room
    c.self.invariant (omega (arith, c.requires.room, room)) c.count_up_to-at.ensures new refl refl refl
    c.add_number-count.ensures.numbers c.add_number-count.ensures.ready c.add_number-count.ensures.others c.add_number-count.ensures.count c.add_number-count.ensures.small
    (omega (arith, longer, c.insert.ensures.capacity)) c.add_number-count.ensures.room c.in-Some.ensures.items)

pub returns-clause-after : goal.returns-clause-after
returns-clause-after c =
    let slots : List Slot = c.self.inside.slots.items in
    let s : Stalled = record { line = c.args.line; message = c.args.m } in
    let slot : Slot = record { number = c.args.m.number; held = Some s } in
    let new : IsNew (waiting_of slots) c.args.m.number = subst (λ (r : Roomy (List Stalled)). IsNew r.kept c.args.m.number) (sym c.self.view_is) c.requires.new in
    let fine = sym c.is_err.ensures.value ∙ c.if-is_err.false in
    let put : c.insert.new.self.items ≡ insert slots c.count_up_to-at.result slot = ok-holds c.insert.result fine c.insert.ensures.items in
    ap waiting_of put
    ∙ (waiting-with slots c.args.m.number c.count_up_to-at.result c.self.invariant.order c.count_up_to-at.ensures new slot s refl refl
    ∙ ap (λ (r : Roomy (List Stalled)). with_stalled r.kept c.args.line c.args.m) c.self.view_is)
