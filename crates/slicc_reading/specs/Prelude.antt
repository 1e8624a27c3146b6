-- The definitions that other files name, from one place.
pub use Rattle.slicc_reading.specs.Reading.{AreParts, AreRead, Covers, IsCalled, IsNode, IsOpened, IsRead, IsSpelledBefore, IsStopOf, Leads, Refuses, call_parts}
pub use Rattle.slicc_reading.specs.Reading.AreParts.{allowed, inside, nothing, one}
pub use Rattle.slicc_reading.specs.Reading.IsNode.{spelled}
pub use Rattle.slicc_reading.specs.Reading.IsStopOf.{is_bad, is_deep, is_short}
pub use Rattle.slicc_reading.specs.Reading.Refuses.{no_memory, stops}
pub use Rattle.slicc_reading.specs.Answers.{IsFaultFrom, placed}
pub use Rattle.slicc_reading.specs.Attributes.{IsValue, value_kinds}
pub use Rattle.slicc_reading.specs.Brackets.{balanced_outline, bracketed, bracketed_parts, opening_brackets}
