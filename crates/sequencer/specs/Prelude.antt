-- The definitions that other files name, from one place.
pub use Rattle.sequencer.specs.Callbacks.{CallsBack}
unfoldable pub use Rattle.sequencer.specs.Callbacks.{FitCallbacks, after_callbacks}
pub use Rattle.sequencer.specs.Drive.{CanIssue, CanIssueOne, CanTake, Drive, IsFindingAt, IsLawful, Taken, after_drive, after_issuing, after_taking, seats_after_taking}
pub use Rattle.sequencer.specs.Kept.{AreAnswers, AreRequests, ComesBefore, IsAnswer, NoLater}
pub use Rattle.sequencer.specs.Outstanding.{entry_of, outstanding_of}
pub use Rattle.sequencer.specs.OwnedSeats.{AreOwned, HasRoom, seat_of, seats_of}
pub use Rattle.sequencer.specs.Place.{IsPlaceOf}
pub use Rattle.sequencer.specs.PlainDriver.{plain_drive, plain_needs}
pub use Rattle.sequencer.specs.PlainLaw.{plain_lawful}
pub use Rattle.sequencer.specs.Reads.{IsNoLater, IsOldest, by_line, is_above, next_after, older, oldest_of}
pub use Rattle.sequencer.specs.Seats.{AreApart, FitSeats, FitsSeat, Seat, Seating, changed_at, changed_seat, controller_at, first_answer_at, next_at, outstanding_at, requests_at, with_issued, with_seat, with_seats, without_answer_at}
