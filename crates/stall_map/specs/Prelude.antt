-- The definitions that other files name, from one place.
pub use Rattle.stall_map.specs.Prepared.{IsPrepared, IsReady, IsWide, Serves, ServesAll, numbers_of}
pub use Rattle.stall_map.specs.Slots.{HasNone, IsFirstEmpty, IsFollowedBy, IsNamed, IsOrder, IsSlotAt, IsSlotOf, IsSplit, SameWaiting, waiting_of}
pub use Rattle.stall_map.specs.Stalls.{Ascends, IsNew, comes_before, is_above, is_under, messages_of, messages_under, next_after, numbers_under, with_stalled, without_line}
