-- The definitions that other files name, from one place.
pub use Rattle.action_vm.specs.Stacks.{Popped}
pub use Rattle.action_vm.specs.Served.{CanGet, CanSend, CanSet, IsServed}
pub use Rattle.action_vm.specs.Frames.{HasPlaces, HasResult, HasResultAfter, IsNoCall, Needs, NeedsResult, Own, called_next, end_of, fields_at, held_of, left_by, on_of, on_of_memory, own, step_of}
pub use Rattle.action_vm.specs.Pops.{IsOverReference}
pub use Rattle.action_vm.specs.Places.{IsAt, code_at, place_after, step_at}
pub use Rattle.action_vm.specs.Outcome.{EndsAs, EndsOfKind, IsCallOf, IsCallOn, MayRun, code_answer, outcome}
