-- The definitions that other crates name, from one place.
pub use Rattle.turn_lock.specs.Histories.{owner, owned, IsPrefix, AreOwned, Continues, Adds, longer}
pub use Rattle.turn_lock.specs.Standing.{LockId, Gate, Standing, newcomer, newcomers, lists_of, entering, leaving, meeting}
