use Rattle.std.proofs.Common.{◌≡◌, ◌<◌, ◌≤◌, ℕ, length}
use Rattle.ctl_mail.specs.Prelude.{queue_of, room_of}
use Rattle.ctl_mail.proofs.queues.reserve.Given as goal

-- the messages are as they were, no room is lost, and the buffers before this one have the room
abbrev pub invariant-loop-i : goal.invariant-loop-i
invariant-loop-i l = record {
  same : (buffer : ℕ) → queue_of l.buffers.items buffer ≡ queue_of l.initial.buffers.items buffer;
  kept : (buffer : ℕ) → room_of l.initial.buffers.items buffer ≤ room_of l.buffers.items buffer;
  count : length l.buffers.items ≡ length l.initial.buffers.items;
  made : (buffer : ℕ) → buffer < l.i → l.more ≤ room_of l.buffers.items buffer;
}
