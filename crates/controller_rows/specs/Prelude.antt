-- The definitions that other files name, from one place.
pub use Rattle.controller_rows.specs.Going.{GoesOn, IsDone, IsEndOf}
pub use Rattle.controller_rows.specs.Law.{script_lawful}
pub use Rattle.controller_rows.specs.Script.{and_taken, can_be_issued, count_due, due, first_answers, issued_of, left, may_be_issued, opening, script_drive, script_needs}
pub use Rattle.controller_rows.specs.Samples.{buffer_setup, number_in, paths_from, table_setup}
