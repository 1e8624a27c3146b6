-- The definitions that other files name, from one place.
pub use Rattle.ruby_outside.specs.Faults.{Rose}
pub use Rattle.ruby_outside.specs.Files.{Files, IsLawfulRead, IsReadOf, IsSureRead, Reads, bytes_of, got_of}
pub use Rattle.ruby_outside.specs.Lawful.{sure_read}
pub use Rattle.ruby_outside.specs.Plan.{begun}
pub use Rattle.ruby_outside.specs.Put.{IsPut, all_taken, got_stuck, met_fault, went_on}
pub use Rattle.ruby_outside.specs.Sink.{IsCutOff, IsLawfulWrite, IsPlannedWrite, IsWritten, SinkState, bytes_taken, grown}
