-- The definitions that other files name, from one place.
pub use Rattle.declared_types.specs.Attributes.{attribute_of}
pub use Rattle.declared_types.specs.Lent.{declaration_of, declarations_of, scope_of, text_of, type_of}
pub use Rattle.declared_types.specs.LineSorts.{is_of_sort}
pub use Rattle.declared_types.specs.Scopes.{AreTables, ScopeTable, is_machine_named, machine_table, scope_at, summaries, summary, table_in}
pub use Rattle.declared_types.specs.Table.{IsIndexed, with_first}
pub use Rattle.declared_types.specs.Calls.{allowed_of, answer_of, argument_of, call_of, change_of, receiver_of}
pub use Rattle.declared_types.specs.Types.{as_nature, meaning_in, named_of}
