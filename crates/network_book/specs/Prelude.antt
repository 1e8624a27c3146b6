-- The definitions that other files name, from one place.
pub use Rattle.network_book.specs.declared.plan.RunPlan.{RunPlan}
pub use Rattle.network_book.specs.Numbers.{IsSmall, controller_of, event_by, event_of, events_of, kind_of, number_of, numbers_of, worker_of}
pub use Rattle.network_book.specs.Plans.{After, HoldsAfter, IsKnown, begun, plan_of, view_after}
pub use Rattle.network_book.specs.Visits.{HasVisited, after_visit}
pub use Rattle.network_book.specs.Taking.{Comes, IsNewlyHeld, IsResting, IsTaken, IsTakenIn, added_by}
pub use Rattle.network_book.specs.Posting.{EndsWith, HasDone, HasFired, HoldsBy, IsWritten, Keeps, KeepsAll}
