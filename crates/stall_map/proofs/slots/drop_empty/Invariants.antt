use Rattle.std.proofs.Common.{◌≡◌, ◌≤◌}
use Rattle.std.specs.VecDeque.{deque_len, deque_capacity}
use Rattle.stall_map.specs.Prelude.{SameWaiting}
use Rattle.stall_map.proofs.slots.drop_empty.Given as goal

abbrev pub invariant-loop-slots : goal.invariant-loop-slots
invariant-loop-slots l =
    SameWaiting l.fn.slots.items l.slots.items × (deque_len l.slots ≤ deque_len l.fn.slots) × (deque_capacity l.slots ≡ deque_capacity l.fn.slots)

abbrev pub decreases-loop-slots : goal.decreases-loop-slots
decreases-loop-slots l = deque_len l.slots
