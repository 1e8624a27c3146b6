-- The definitions that other files name, from one place.
pub use Rattle.msg_buffer.specs.Queue.{ComesBefore, IsFront, IsNew, IsQueue, comes_before, first_where, front, is_after, is_ready, next_after, with_message, without_message}
