-- How many messages of an inbox are queued, stalled and recycled: one that waits counts as stalled, one that doesn't as recycled
-- if it was recycled at any time, and else as queued. So each counts once. A count beyond 64 bits is told as the greatest number
-- of 64 bits.
use Rattle.std.specs.Prelude.{◌-◌, ◌^◌, ℕ, Bool, ◌&&◌, is_none, is_some, min, not}
use Rattle.ctl_face.specs.Prelude.{InboxMessage}

abbrev pub is_queued : InboxMessage → Bool
is_queued o = is_none o.waiting && not o.message.recycled

abbrev pub is_stalled : InboxMessage → Bool
is_stalled o = is_some o.waiting

abbrev pub is_recycled : InboxMessage → Bool
is_recycled o = is_none o.waiting && o.message.recycled

abbrev pub capped : ℕ → ℕ
capped count = min count (2 ^ 64 - 1)
