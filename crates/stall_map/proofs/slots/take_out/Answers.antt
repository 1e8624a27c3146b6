use Rattle.std.proofs.Common.{refl, sym, ◌∙◌}
use Rattle.ruby_value.specs.Prelude.{same_number}
use Rattle.stall_map.specs.declared.slots.Slot.{Slot}
use Rattle.stall_map.specs.declared.stalled.Stalled.{Stalled}
use Rattle.stall_map.specs.Prelude.{waiting_of}
use Rattle.stall_map.proofs.Orders.{emptied, find-none, found, order-emptied, others-none}
use Rattle.stall_map.proofs.slots.take_out.Goals as goal

pub returns-in-Some-clause-order : goal.returns-in-Some-clause-order
returns-in-Some-clause-order c =
    let e : Slot = record { number = c.index_mut.result.now.number; held = c.take.new.self } in
    order-emptied c.args.slots.now.items c.args.number c.in-Some.at c.index_mut.result.now c.requires.order c.in-Some.ensures (sym c.index_mut.ensures.value)
    e c.take.ensures.after refl

pub returns-in-Some-clause-found : goal.returns-in-Some-clause-found
returns-in-Some-clause-found c =
    c.take.ensures.value
    ∙ found c.args.slots.now.items c.args.number c.in-Some.at c.index_mut.result.now c.requires.order c.in-Some.ensures (sym c.index_mut.ensures.value)

pub returns-in-Some-clause-others : goal.returns-in-Some-clause-others
returns-in-Some-clause-others c =
    let e : Slot = record { number = c.index_mut.result.now.number; held = c.take.new.self } in
    emptied c.args.slots.now.items c.args.number c.in-Some.at c.index_mut.result.now c.requires.order c.in-Some.ensures (sym c.index_mut.ensures.value)
    e c.take.ensures.after

pub returns-in-None-clause-found : goal.returns-in-None-clause-found
returns-in-None-clause-found c = sym (find-none (λ (s : Stalled). same_number s.message.number c.args.number) (waiting_of c.args.slots.now.items) c.in-None.ensures)

pub returns-in-None-clause-others : goal.returns-in-None-clause-others
returns-in-None-clause-others c = others-none c.args.number (waiting_of c.args.slots.now.items) c.in-None.ensures
