use Rattle.std.proofs.Common.{◌-◌, ◌<◌, List, length, sym, ap, ◌∙◌, arith}
use Rattle.std.proofs.lemmas.List.{get_or_read}
use Rattle.stall_map.specs.declared.slots.Slot.{Slot}
use Rattle.stall_map.proofs.Numbers.{differ-is, same-is}
use Rattle.stall_map.proofs.Orders.{slot-at, slot-none}
use Rattle.stall_map.proofs.slots.slot_of.Goals as goal
use Rattle.stall_map.proofs.slots.slot_of.Goals.{else-count-gt0-via-then-count-gt0+else-eq, else-count-gt0-via-else-count-gt0}

pub returns-then-eq : goal.returns-then-eq
returns-then-eq c =
    let slots : List Slot = c.args.slots.now.items in
    let count = c.count_up_to-count.result in
    let within : count - 1 < length slots = omega (arith, c.count_up_to-count.ensures.within) in
    slot-at slots c.args.number c.requires.order count c.count_up_to-count.ensures c.if-count-gt0.true
    (λ d. ap (λ (s : Slot). s.number) (sym (get_or_read slots (count - 1) c.index.result.now within c.index.ensures d)) ∙ same-is c.index.result.now.number c.args.number (sym c.eq.ensures ∙ c.if-eq.true))

pub returns : goal.returns
returns c =
    let slots : List Slot = c.args.slots.now.items in
    let count = c.count_up_to-count.result in
    elim c.else-count-gt0.branch [
      | else-count-gt0-via-then-count-gt0+else-eq w ↦
          slot-none slots c.args.number c.requires.order count c.count_up_to-count.ensures
          (λ positive d is.
          let within : count - 1 < length slots = omega (arith, c.count_up_to-count.ensures.within) in
          differ-is w.index.result.now.number c.args.number (sym w.eq.ensures ∙ w.if-eq.false)
          (ap (λ (s : Slot). s.number) (get_or_read slots (count - 1) w.index.result.now within w.index.ensures d) ∙ is))
      | else-count-gt0-via-else-count-gt0 w ↦
          slot-none slots c.args.number c.requires.order count c.count_up_to-count.ensures (λ positive d is. omega arith)
    ]
