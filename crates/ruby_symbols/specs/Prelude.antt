-- The definitions that other files name, from one place.
pub use Rattle.ruby_symbols.specs.Kinds.{kind_named, kind_of_enumeration, kind_of_own, kind_of_reference, simple_kind}
pub use Rattle.ruby_symbols.specs.Names.{action_among, action_named, buffer_among, buffer_named, carries_requests, function_among, function_named, has_port_on, is_local, is_mandatory, machine_named, mandatory, port_named, port_or_sequencer, sequencer_named, stands_for, table_named, takes_requests}
pub use Rattle.ruby_symbols.specs.Numbers.{is_number, number_of, short_number}
pub use Rattle.ruby_symbols.specs.States.{get_state_arguments, set_permission_arguments, set_state_arguments}
pub use Rattle.ruby_symbols.specs.Types.{enumeration_named, field_named, is_owner, member_named, request}
