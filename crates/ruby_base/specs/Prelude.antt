-- The definitions that other files name, from one place.
pub use Rattle.ruby_base.specs.Numbering.{AreDistinct, is_name, number_among, with_name}
unfoldable pub use Rattle.ruby_base.specs.Finds.{Finds}
