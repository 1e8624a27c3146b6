use Rattle.std.proofs.Common.{◌≡◌, None, List, drop, refl, sym, ap, ◌∙◌}
use Rattle.std.specs.List.{filter, slice_get}
use Rattle.stall_map.specs.declared.slots.Slot.{Slot}
use Rattle.stall_map.specs.Prelude.{is_above, waiting_of}
use Rattle.stall_map.proofs.Orders.{above-split}
use Rattle.stall_map.proofs.Placed.{filter-all}
use Rattle.stall_map.proofs.waiting.StallMap.next_after.Goals as goal
use Rattle.stall_map.proofs.waiting.StallMap.next_after.Goals.{in-Some, in-None}

above-none : (slots : List Slot) → filter (is_above None) (waiting_of slots) ≡ waiting_of (drop 0 slots)
above-none slots = filter-all (is_above None) (waiting_of slots) (λ k d lt. refl)

pub returns-in-Some-first_from : goal.returns-in-Some-first_from
returns-in-Some-first_from c =
    let slots : List Slot = c.self.inside.slots.items in
    let above : filter (is_above c.args.number) (waiting_of slots) ≡ waiting_of (drop c.match-number.from slots) = elim c.match-number.branch [
      | in-Some w ↦ rw (w.from-is, w.in-Some.is) (above-split w.in-Some.n slots w.count_up_to-from.result c.self.invariant.order w.count_up_to-from.ensures)
      | in-None w ↦ rw (w.from-is, w.in-None.is) (above-none slots)
    ] in
    rw (← c.self.view_is) (c.in-Some-first_from.ensures ∙ ap (λ ws. slice_get ws 0) (sym above))

pub returns-in-None-first_from : goal.returns-in-None-first_from
returns-in-None-first_from c =
    let slots : List Slot = c.self.inside.slots.items in
    let above : filter (is_above c.args.number) (waiting_of slots) ≡ waiting_of (drop c.match-number.from slots) = elim c.match-number.branch [
      | in-Some w ↦ rw (w.from-is, w.in-Some.is) (above-split w.in-Some.n slots w.count_up_to-from.result c.self.invariant.order w.count_up_to-from.ensures)
      | in-None w ↦ rw (w.from-is, w.in-None.is) (above-none slots)
    ] in
    rw (← c.self.view_is) (c.in-None-first_from.ensures ∙ ap (λ ws. slice_get ws 0) (sym above))
