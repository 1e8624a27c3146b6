-- The definitions that other files name, from one place.
pub use Rattle.ctl_tables.specs.After.{CanChange, CanEdit, HasFieldOf, IsTable, or_same, with_change, with_change_in}
unfoldable pub use Rattle.ctl_tables.specs.After.{Replays, after_changes}
pub use Rattle.ctl_tables.specs.Change.{edit_in, kept_in, line_removed}
pub use Rattle.ctl_tables.specs.Container.{HasRoom, table_of}
pub use Rattle.ctl_tables.specs.Frames.{CacheFrame, DirectoryFrame, Frame, ParameterFrame, TbeFrame, frame_at, frame_of, keeps_order, loses_lines}
pub use Rattle.ctl_tables.specs.Logged.{DoesIn}
pub use Rattle.ctl_tables.specs.Places.{is_beside, lines_beside, lines_changed, lines_with, places_of, room_in, share_places}
unfoldable pub use Rattle.ctl_tables.specs.Places.{lines_after}
pub use Rattle.ctl_tables.specs.Recency.{edit_moves, edit_uses, first_used, moves, numbers_of, order_with, share_set, stays_in, used_by, uses_beside}
unfoldable pub use Rattle.ctl_tables.specs.Recency.{order_after}
pub use Rattle.ctl_tables.specs.Stored.{default_of, log_of, state_log_of, states_of, tables_now, tables_of}
pub use Rattle.ctl_tables.specs.TableActs.{after_change_in, allocate_in, avail_from, change_if_there_in, changed_in, deallocate_in, fields_at, free_from, get_from, lookup_from, probe_from, set_in, touch_in}
pub use Rattle.ctl_tables.specs.Told.{edit_tells, tells, told_there, told_value}
pub use Rattle.ctl_tables.specs.Ways.{IsUnwritten, IsWay, IsWayIn}
