use Rattle.std.proofs.Common.{◌≡◌, ◌++◌, ℕ, length, reverse, vec_len}
use Rattle.protocol_runs.specs.Prelude.{messages_for}
use Rattle.world_state.specs.Prelude.{HasRoomToPost, waiting_at}
use Rattle.world_state.proofs.waiting.post_all.Given as goal

-- what is left can still be posted, and when it has been all have
abbrev pub invariant-loop-d : goal.invariant-loop-d
invariant-loop-d l = record {
  count : length l.waiting.items ≡ length l.initial.waiting.items;
  room : HasRoomToPost (vec_len l.newest_first) (reverse l.newest_first.items) l.waiting.items;
  after :
      (c : ℕ)
      → waiting_at l.waiting.items c ++ messages_for c (reverse l.newest_first.items)
      ≡ waiting_at l.initial.waiting.items c ++ messages_for c (reverse l.initial.newest_first.items);
}

abbrev pub decreases-loop-d : goal.decreases-loop-d
decreases-loop-d l = vec_len l.newest_first
