-- The definitions that other files name, from one place.
pub use Rattle.protocol_runs.specs.Setting.{SeatSetup, Setting}
pub use Rattle.protocol_runs.specs.Machines.{actor_of, is_in_range, machine_of, setup_of}
pub use Rattle.protocol_runs.specs.Meaning.{IsFired, IsMeaning, IsRefusedTry, IsScanOf, Meaning, Rests, acts_told}
pub use Rattle.protocol_runs.specs.Requests.{member_of, request_at, request_fields, request_kinds, request_message, request_messages}
pub use Rattle.protocol_runs.specs.Turn.{acts_at, is_seat_of, issued_at, seat_in, seat_with, seats_in, served, taken_at}
pub use Rattle.protocol_runs.specs.Rules.{has_row_of, mailed, opening_controllers, opening_of, rules, scan_by, scan_of}
pub use Rattle.protocol_runs.specs.IsSetting.{AreApart, HasQueue, IsSetting, TakesRequests}
pub use Rattle.protocol_runs.specs.Kept.{CreditSuits, FitsRun, HasSeats, MessageSuits, SuitsReceiver}
pub use Rattle.protocol_runs.specs.Parcels.{parcel_numbers}
pub use Rattle.protocol_runs.specs.Sample.{IsSampleRun, outcome_of, sample, sample_history, sample_rules, sample_setting}
unfoldable pub use Rattle.protocol_runs.specs.Sample.{taking}
pub use Rattle.protocol_runs.specs.Account.{IsAccounted, account, consumed_in, consumed_numbers, is_queued, is_recycled, is_stalled, sent_in, sent_numbers, times}
pub use Rattle.protocol_runs.specs.Alone.{IsAlone, IsAloneEvent, IsNextTake}
pub use Rattle.protocol_runs.specs.Change.{Change, Closes, EndedBy, Ends, Filled, FiredBy, Halted, Idled, IsIdle, Move, Moves, Released, Taken, Turns}
pub use Rattle.protocol_runs.specs.Fresh.{HasFreshNumbers, given, given_at}
pub use Rattle.protocol_runs.specs.InvalidExactly.{EndsExactly, InvalidExactly, IsExact, IsInvalidTry, NeverFires, invalid_at}
pub use Rattle.protocol_runs.specs.MarksStay.{MarksStay, marked_at}
pub use Rattle.protocol_runs.specs.NextCycle.{IsLeastAboveIfAny, IsNextCycle, MustAct}
pub use Rattle.protocol_runs.specs.Outcome.{ContinuesAt, Cycles, Deadlock, EndsWith, Finds, HasNoneStopped, Incoherent, IsLeastStopped, IsNextFrom, IsOutcome, IsWithin, Journal, Mail, Passed, Quiet, StopsAt, WakesAsMarked, driven_world, entry_of, messages_in}
pub use Rattle.protocol_runs.specs.Premises.{AllSuit, AreNewNumbers, CarriesMail, IsAsked, IsNew, IsOnce, IsSound, Keeps, KeepsMail, KeepsMarks, MovesMail, ReportsInvalid, mail_numbers}
pub use Rattle.protocol_runs.specs.RunRules.{Acts, DriverTurn, Fired, Full, Idle, Mailed, Outcome, Rules, Scan, Stop, Tried}
pub use Rattle.protocol_runs.specs.Run.{HasEnded, IsRun, Ran, go_on, ran_on, run, start}
pub use Rattle.protocol_runs.specs.Step.{Moved, Stepped, after_driver, at_place, begun_place, changed_from, delivery_numbers, done, driver_turn_in, ended_by, fire, fired_by, fired_entry, given_back, held_by, held_by_nobody, is_busy, is_holder, moved, next_in, next_world, release, step_lawfully, stopped_by, take, turn_by, verdict_in, with_arrival, with_controller, with_deliveries, with_delivery, with_delivery_at, with_driver_turn, with_moved}
unfoldable pub use Rattle.protocol_runs.specs.Step.{step}
pub use Rattle.protocol_runs.specs.Verdict.{above, beyond, earlier, first_of, found, held_mail, journal_limit, later, least_above, least_stopped, mail_limit, next_cycle, quiet, too_full, too_long, verdict_after}
pub use Rattle.protocol_runs.specs.WakesOnce.{WakesOnce, ends_with_turn, is_done_of, is_turn, wakes_at}
pub use Rattle.protocol_runs.specs.World.{Place, World, is_due, is_free, is_held, must_wake, opening, opening_place}
pub use Rattle.protocol_runs.specs.Held.{AreNewFor, AreOfOthers, HasOnlyGrown, IsHeldBy, IsLawfulMove, MayCome, copies_at, copies_in, copies_of, held_place, is_on, is_take_of, messages_after, messages_along, messages_for, messages_since_take, with_arrivals}
pub use Rattle.protocol_runs.specs.HeldLaws.{CopiesMayCome, HeldControllersGrow, HeldEnds, HeldFires, HeldIsReleased, IsHeldAfter, OthersLeaveHeld, TakesHold}
pub use Rattle.protocol_runs.specs.Framed.{IsFramed, IsFramedMeaning, outcome_with, scan_with}
