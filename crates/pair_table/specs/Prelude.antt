-- The definitions that other files name, from one place.
pub use Rattle.pair_table.specs.PairPlaces.{AreFirsts, IsAmong, first_at, is_at, least_at, marked, places_of, row_at, rows_at}
pub use Rattle.pair_table.specs.Tables.{IsTableOf, answer_at, answer_of, inner}
