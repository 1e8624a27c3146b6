-- The definitions that other files name, from one place.
pub use Rattle.slicc_names.specs.Collected.{AreNamesOrBroken, IsCollected}
pub use Rattle.slicc_names.specs.Counting.{decl_places, else_if_places, field_places, found_after, found_next, if_counted, inside, is_of_kind, is_sequencer_in, is_wanted, kind_limits, limits_of, listed_place, local_places, parameter_places, place_if, told_found, with_its_own_places}
pub use Rattle.slicc_names.specs.Declaring.{one_formal, one_member, one_parameter, one_state, one_symbol}
pub use Rattle.slicc_names.specs.Lookups.{FindSame}
pub use Rattle.slicc_names.specs.Names.{KeepGrammar, all_names, name_number, once_each, scope_names, short_number, texts_declared}
pub use Rattle.slicc_names.specs.Repeated.{decl_scopes, else_if_scopes, item_scopes, tree_scopes}
