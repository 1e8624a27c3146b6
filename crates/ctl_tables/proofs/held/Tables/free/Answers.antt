use Rattle.std.proofs.Common.{◌≡◌, ◌∙◌, true, false, ap, slice_get, sym}
use Rattle.ctl_tables.specs.Prelude.{frame_at, keeps_order, log_of, tables_now, tables_of}
use Rattle.ctl_tables.proofs.Counting.{free_is_room, none_free}
use Rattle.ctl_tables.proofs.Steps.{frames_after}
use Rattle.ctl_tables.proofs.held.Tables.free.Goals as goal

pub returns-then-keeps_order : goal.returns-then-keeps_order
returns-then-keeps_order c =
    let kind : keeps_order (frame_at (tables_now c.args.self.now c.args.changes.now) c.args.table) ≡ true = ap keeps_order (frames_after c.args.table (log_of c.args.changes.now) (tables_of c.args.self.now) c.requires c.keeps_order.ensures.law) ∙ sym c.keeps_order.ensures.kind ∙ c.if-keeps_order.true in
    sym (none_free (slice_get (tables_now c.args.self.now c.args.changes.now) c.args.table) kind)

pub returns-else-keeps_order : goal.returns-else-keeps_order
returns-else-keeps_order c =
    let kind : keeps_order (frame_at (tables_now c.args.self.now c.args.changes.now) c.args.table) ≡ false = ap keeps_order (frames_after c.args.table (log_of c.args.changes.now) (tables_of c.args.self.now) c.requires c.keeps_order.ensures.law) ∙ sym c.keeps_order.ensures.kind ∙ c.if-keeps_order.false in
    c.room.ensures ∙ sym (free_is_room (slice_get (tables_now c.args.self.now c.args.changes.now) c.args.table) 0 kind)
