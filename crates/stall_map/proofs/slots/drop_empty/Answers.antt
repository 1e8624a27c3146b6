use Rattle.std.proofs.Common.{List, is_some, rules, sym, subst}
use Rattle.std.proofs.lemmas.Fn.{filter_same}
use Rattle.stall_map.specs.declared.slots.Slot.{Slot}
use Rattle.stall_map.specs.Prelude.{SameWaiting}
use Rattle.stall_map.proofs.Orders.{same-full}
use Rattle.stall_map.proofs.slots.drop_empty.Goals as goal

pub returns-then-len-waiting-clause-same : goal.returns-then-len-waiting-clause-same
returns-then-len-waiting-clause-same c =
    subst (SameWaiting c.args.slots.now.items) (sym {A = List Slot} (filter_same _ (λ (s : Slot). is_some s.held) _ (λ x b f' k. search rules) _ _ c.retain.ensures.filtered))
    (same-full c.args.slots.now.items c.loop-slots.slots.items c.loop-slots.invariant.0)
