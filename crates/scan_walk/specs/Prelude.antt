-- The definitions that other files name, from one place.
pub use Rattle.scan_walk.specs.Room.{one_short}
