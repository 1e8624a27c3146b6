-- The definitions that other files name, from one place.
pub use Rattle.ctl_mail.specs.Census.{capped, is_queued, is_recycled, is_stalled}
pub use Rattle.ctl_mail.specs.Credits.{CreditsAscend, IsCreditPlace}
pub use Rattle.ctl_mail.specs.Dequeued.{dequeue_acts, is_own_credit, told_dequeued}
pub use Rattle.ctl_mail.specs.Inbox.{Has, Holds, IsAt, queued_messages, waiting_message}
unfoldable pub use Rattle.ctl_mail.specs.Inbox.{inbox_of}
pub use Rattle.ctl_mail.specs.Lasts.{lasts_in}
pub use Rattle.ctl_mail.specs.Least.{HasArrived, IsBack, IsBackAmong, IsBackNow, IsBackOf, IsEither, IsFirst, IsFirstWith, IsFree, IsKept, IsLeast, IsLeftIn, IsNearer, IsReplaced, first_of_two, is_nearer}
pub use Rattle.ctl_mail.specs.Log.{ArrivalsRise, IsLog, counted_if, counts_with, is_local_last, is_placed, is_stall, is_wake, newer_kept, newer_local, newer_network, no_counts, pair_of, place_of}
unfoldable pub use Rattle.ctl_mail.specs.Log.{kept_at, with_written}
pub use Rattle.ctl_mail.specs.MailOf.{IsMail, IsNewIn, buffer_count, mail_of}
pub use Rattle.ctl_mail.specs.MailView.{MailDoes, MailView, mail_view, view_after_front, view_again, view_popped, view_recycled, view_stalled, view_wake, view_wake_all, view_woken, with_mail_view}
pub use Rattle.ctl_mail.specs.Marks.{IsLeastFrom, IsMarkPlace, IsNextMark}
pub use Rattle.ctl_mail.specs.Moves.{MovesRise, act_of, after_move, is_woken}
unfoldable pub use Rattle.ctl_mail.specs.Moves.{waiting_after, with_move, with_moves}
pub use Rattle.ctl_mail.specs.Numbers.{Adds, AddsOne, NumbersRise}
pub use Rattle.ctl_mail.specs.Parcels.{IsTakeable, mail_with_parcel}
pub use Rattle.ctl_mail.specs.Queues.{LosesNoRoom, LosesOneRoom, Queues, Replaces, messages_in, room_in}
unfoldable pub use Rattle.ctl_mail.specs.Queues.{queue_of, room_of}
pub use Rattle.ctl_mail.specs.Room.{HasPlaces, HasPlacesToWake, HasRoomToMake, LosesPlaces, credit_room, lent_room, mark_room, KeepsRoom}
unfoldable pub use Rattle.ctl_mail.specs.Room.{HasLastRoom}
pub use Rattle.ctl_mail.specs.Sends.{AreNext, HaveNext, MaySend, OwnAreBelow, actor_of, copies_to_all, drawn_after, is_routed, jitter_at, mail_after, members_from, view_after, view_after_sending, view_sent, view_with_copies, view_with_network_copy}
pub use Rattle.ctl_mail.specs.Sent.{HasSpace, arrive_acts, copy_acts, copy_at, lend_acts, counts_after, told_with_act, told_with_copy}
pub use Rattle.ctl_mail.specs.Slots.{is_lend, lesser, slots_in}
pub use Rattle.ctl_mail.specs.Told.{AreOf, CopiesFit, CountsFit, IsGone, IsLeft, IsMakeable, IsOut, IsSeen, IsWoken, IsWokenAmong, IsWokenIn, IsWokenKept, IsWokenMoved, IsWokenStalled, IsWokenUnder, LentFit, Reflects, Told, after_act, changed_mail, changed_view, counts_in, mail_at_front, told_by}
unfoldable pub use Rattle.ctl_mail.specs.Told.{AreMakeable, after_acts}
