use Rattle.std.proofs.Common.{◌≡◌, ◌+◌, ◌-◌, ◌≤◌, ◌⊎◌, ℕ, Option, None, ◌++◌, length, vec_capacity}
use Rattle.std.specs.FinMap as map
use Rattle.std.specs.VecDeque.{deque_len, deque_capacity}
use Rattle.stall_map.specs.declared.lane.Lane.{Lane}
use Rattle.stall_map.specs.Prelude.{IsOrder, Serves, messages_of, numbers_under, waiting_of}
use Rattle.stall_map.proofs.waiting.StallMap.wake_all.Given as goal

-- what was taken out and what still waits are what waited
abbrev pub invariant-loop-slot : goal.invariant-loop-slot
invariant-loop-slot l =
    let w = l.self-inside in
    let old = l.initial.self-inside in
    record {
      out : l.all.items ++ messages_of (waiting_of w.slots.items) ≡ messages_of (waiting_of old.slots.items);
      places : length l.all.items + length (waiting_of w.slots.items) ≤ vec_capacity l.all;
      room : w.room ≡ old.room;
      longest : w.longest ≡ old.longest;
      pool : w.pool ≡ old.pool;
      order : IsOrder w.slots.items;
      entries : deque_capacity old.slots - deque_len old.slots ≤ deque_capacity w.slots - deque_len w.slots;
      lines : old.lanes.room ≤ w.lanes.room;
      serves : (line : ℕ) → ◌≡◌ {A = Option Lane} (map.get w.lanes.kept line) None ⊎ Serves (numbers_under (waiting_of w.slots.items) line) w.longest (map.get w.lanes.kept line);
    }

abbrev pub decreases-loop-slot : goal.decreases-loop-slot
decreases-loop-slot l = deque_len l.self-inside.slots
