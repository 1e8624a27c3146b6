-- The definitions that other files name, from one place.
pub use Rattle.type_numbers.specs.Fields.{field_seen}
pub use Rattle.type_numbers.specs.MessageTypes.{network_type_among, own_type_among, type_among}
pub use Rattle.type_numbers.specs.Numbered.{AreNumbered, default_of, has_sort, scoped_of, trees_of}
pub use Rattle.type_numbers.specs.Small.{HasFewMembers, IsOfFewFields, IsOfFewMembers, IsOnNetwork, NamesFewMembers}
