use Rattle.std.proofs.Common.{◌≡◌, ℕ, length}
use Rattle.world_state.specs.Prelude.{waiting_at}
use Rattle.world_state.proofs.Posted.{HasRoomUpTo}
use Rattle.world_state.proofs.waiting.room_to_post.Given as goal

abbrev pub invariant-loop-d : goal.invariant-loop-d
invariant-loop-d l = record {
  count : length l.waiting.items ≡ length l.fn.waiting.items;
  same : (c : ℕ) → waiting_at l.waiting.items c ≡ waiting_at l.fn.waiting.items c;
  room : HasRoomUpTo (length l.posted) l.posted l.waiting.items l.d-index;
}
