use Rattle.std.proofs.Common.{◌∙◌, ◌-◌, List, Some, reverse, sym, ap}
use Rattle.ctl_tables.specs.declared.change.TableChange.{TableChange}
use Rattle.ctl_tables.specs.Prelude.{table_of, frame_of, lines_after, lines_beside, places_of, log_of, tables_of}
use Rattle.ctl_tables.proofs.Counting.{no_room, room_of}
use Rattle.ctl_tables.proofs.held.Tables.room.Goals as goal

pub returns-in-Some : goal.returns-in-Some
returns-in-Some c =
    let t = table_of c.in-Some.stored.now in
    c.saturating_sub.ensures ∙ ap (λ k. k - c.lines_after-lines.result) (c.from.ensures ∙ c.places.ensures) ∙ ap (λ k. places_of (frame_of t) - k) c.lines_after-lines.ensures
    ∙ ap (λ (items : List TableChange). places_of (frame_of t) - lines_after (Some (frame_of t)) c.args.table c.args.line (lines_beside t c.args.line) (reverse items)) c.deref.ensures.value
    ∙ sym (room_of (log_of c.args.changes.now) (tables_of c.args.self.now) c.args.table c.args.line c.requires c.stored.ensures.law t (sym c.in-Some.ensures.there))

pub returns-in-None : goal.returns-in-None
returns-in-None c = sym (no_room (log_of c.args.changes.now) (tables_of c.args.self.now) c.args.table c.args.line c.requires c.stored.ensures.law (sym c.in-None.ensures.there))
