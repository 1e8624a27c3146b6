-- The definitions that other files name, from one place.
pub use Rattle.cache_array.specs.Holds.{HasPlaces, Holds, IsMask, lines_of}
