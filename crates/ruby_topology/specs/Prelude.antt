-- The definitions that other files name, from one place.
pub use Rattle.ruby_topology.specs.Faults.{ForLine}
pub use Rattle.ruby_topology.specs.Forms.{form_of}
pub use Rattle.ruby_topology.specs.Lines.{Reading, Says, added, after_those, buffer_in, cache_in, cache_line, cache_named, crossbar_line, in_machine, is_int, jitter_line, judged, link_line, machine_line, mesh_line, needs, number_at, number_named, ordered_line, point_to_point_line, read_from, reading, receiving_in, receiving_named, says_in, set_line, size_line, sort_at, table_in, tbes_in, tbes_line, tbes_named, value_in, with_line}
pub use Rattle.ruby_topology.specs.Members.{controller_name, count_or_none, decimal, index_named, machine_name, member_in, member_named}
pub use Rattle.ruby_topology.specs.Paths.{AreRows, HasIsland, HasWay, IsIsland, IsLeastSum, IsPath, IsRow, Joins, LeadsTo, column_of, distance, path_by, row_of, steps_between}
pub use Rattle.ruby_topology.specs.Said.{controllers, count_in, count_of, counted, first_some, is_buffer_sized, is_linked, is_links, is_member, is_ordered_said, is_said, is_set, is_sized, jitter_in, jitter_said, joins, network_in, network_said, orders, sets_value, sizes_buffer, sizes_table}
pub use Rattle.ruby_topology.specs.Search.{IsBetween, IsNearest, IsSearched, SumsOf, far_end, is_settled, mark_at, mark_end, relaxed, shorter, sum_at}
pub use Rattle.ruby_topology.specs.Text.{before_comment, is_blank, is_digit, is_number_within, is_some_word, lines_of, number_within, word_at, words_of}
pub use Rattle.ruby_topology.specs.Topology.{HasIslandSaid, HasParts, HasRoutes, IsLackingSaid, IsPlainOf, IsRefused, IsRefusedPlain, IsTopologyOf, IsTopologySaid, after_last, at_line, cache_of, calls_ordered, can_be_asked, counts_of, has_ordered, is_from, is_on, is_ordered_on, is_seat, lacks_line, link_in, links_of, members_from, members_of, members_said, name_of, network_of, no_line, no_path, no_seat, ranges_from, receiving_at, receiving_of, seat_of, seats_of, sizes_of, slot_in, slots_from, tbes_of}
pub use Rattle.ruby_topology.specs.Within.{IsNetworkWithin, IsWithin}
