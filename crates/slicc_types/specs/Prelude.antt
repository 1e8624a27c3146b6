-- The definitions that other files name, from one place.
pub use Rattle.slicc_types.specs.Judged.{IsJudged, IsKept, IsResolved, IsWritten}
