-- The definitions that other files name, from one place.
pub use Rattle.cycle_order.specs.Order.{HasNoTurn, Rises, RisesBy, is_turned, ordered, ordered_on, owner, put, put_by}
pub use Rattle.cycle_order.specs.Slots.{AreSlotsOf, IsSortedTo, controller_in, entry_in, owner_if}
