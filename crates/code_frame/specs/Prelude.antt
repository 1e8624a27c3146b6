-- The definitions that other files name, from one place.
pub use Rattle.code_frame.specs.Slots.{IsBig, IsMoved, IsPut, IsWord, SameElsewhere, big, of_sort, reference_of, value_at, value_in, values_from, word_of}
pub use Rattle.code_frame.specs.Window.{IsMark, SameRest, Window, begun, pushed, stored, window}
pub use Rattle.code_frame.specs.Needs.{Any, IsAddress, IsBool, IsInt, IsTopReference, IsReference, Over, Rest}
