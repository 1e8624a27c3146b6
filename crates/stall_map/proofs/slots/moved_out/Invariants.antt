use Rattle.std.proofs.Common.{◌≡◌, ◌≤◌, ℕ, ◌++◌, drop, length, vec_capacity}
use Rattle.std.specs.VecDeque.{deque_len, deque_capacity}
use Rattle.stall_map.specs.Prelude.{IsOrder, messages_under, numbers_under, waiting_of, without_line}
use Rattle.stall_map.proofs.slots.moved_out.Given as goal

abbrev pub invariant-loop-number : goal.invariant-loop-number
invariant-loop-number l = record {
  order : IsOrder l.slots.items;
  len : deque_len l.slots ≡ deque_len l.fn.slots;
  capacity : deque_capacity l.slots ≡ deque_capacity l.fn.slots;
  places : vec_capacity l.woken ≡ vec_capacity l.fn.woken;
  enough : length l.woken.items ≤ l.number-index;
  left : (line : ℕ) → l.numbers ≡ numbers_under (waiting_of l.fn.slots.items) line → numbers_under (waiting_of l.slots.items) line ≡ drop l.number-index l.numbers;
  out : (line : ℕ) → l.numbers ≡ numbers_under (waiting_of l.fn.slots.items) line
      → l.woken.items ++ messages_under (waiting_of l.slots.items) line ≡ messages_under (waiting_of l.fn.slots.items) line;
  others : (line : ℕ) → l.numbers ≡ numbers_under (waiting_of l.fn.slots.items) line
      → without_line (waiting_of l.slots.items) line ≡ without_line (waiting_of l.fn.slots.items) line;
}
