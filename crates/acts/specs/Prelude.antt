-- The definitions that other files name, from one place.
pub use Rattle.acts.specs.Act.{Act, Again, Allocate, Avail, Deallocate, Free, Front, Get, Lookup, Me, Now, Pop, Probe, ReadBack, Ready, Recycle, Send, Set, SetState, Slots, Stall, State, Touch, Wake, WakeAll, WriteBack, answer}
pub use Rattle.acts.specs.Serves.{is_line, serves, takes, takes_field}
pub use Rattle.acts.specs.Done.{Done, changes, does_served, reads}
unfoldable pub use Rattle.acts.specs.Done.{does}
pub use Rattle.acts.specs.Acting.{Acting, acts, ends, fault_of, follow, stops}
unfoldable pub use Rattle.acts.specs.Acting.{act, decided, either, found, given, run, ◌>>=◌, ◌>>◌}
pub use Rattle.acts.specs.DoesAs.{itself}
unfoldable pub use Rattle.acts.specs.DoesAs.{DoesAs}
pub use Rattle.acts.specs.After.{Agrees, HoldsAfter}
pub use Rattle.acts.specs.Required.{Required}
pub use Rattle.acts.specs.Kept.{AreCreditsMarked, AreMarked, CountsStay, IsMarked, KeepsMarks, MarksStay}
pub use Rattle.acts.specs.Mailed.{HasMailed, IsPosted}
pub use Rattle.acts.specs.Added.{Added, AreNew, IsNew, after_adding, with_added}
pub use Rattle.acts.specs.Left.{IsLeft}
pub use Rattle.acts.specs.Lent.{lent, message_there, no_message}
