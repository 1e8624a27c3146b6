-- The definitions that other files name, from one place.
pub use Rattle.random_tester.specs.Answers.{from, taken-at}
pub use Rattle.random_tester.specs.Law.{drop-all, from-next, none-left, tester_lawful}
pub use Rattle.random_tester.specs.Slot.{fresh_slot}
pub use Rattle.random_tester.specs.State.{State, made, opening}
pub use Rattle.random_tester.specs.Took.{stopped, took-none, took-on, took-stop}
pub use Rattle.random_tester.specs.Turn.{Finished, Took, and_before, finished_from, judged, late, late_at, outstanding_of, tester_drive, tester_needs}
unfoldable pub use Rattle.random_tester.specs.Turn.{took}
