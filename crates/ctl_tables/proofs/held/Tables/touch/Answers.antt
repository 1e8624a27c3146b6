use Rattle.std.proofs.Common.{◌≡◌, ◌∙◌, true, false, ap, is_some, refl, sym}
use Rattle.ctl_tables.specs.declared.change.Edit.TheVariants as edit
use Rattle.ctl_tables.specs.Prelude.{frame_at, keeps_order, log_of, tables_now, tables_of, touch_in, fields_at}
use Rattle.ctl_tables.proofs.Doing.{does_by_log, replays_by_log}
use Rattle.ctl_tables.proofs.Losing.{use_absent, use_done, use_nothing}
use Rattle.ctl_tables.proofs.Steps.{frames_after}
use Rattle.ctl_tables.proofs.held.Tables.touch.Goals as goal

pub returns-then-has_line-clause-does : goal.returns-then-has_line-clause-does
returns-then-has_line-clause-does c =
    let kind : keeps_order (frame_at (tables_now c.args.self.now c.args.changes.now) c.args.table) ≡ true = ap keeps_order (frames_after c.args.table (log_of c.args.changes.now) (tables_of c.args.self.now) c.requires c.keeps_order.ensures.law) ∙ sym c.keeps_order.ensures.kind ∙ c.if-keeps_order.true in
    let there : is_some (fields_at (tables_now c.args.self.now c.args.changes.now) c.args.table c.args.line) ≡ true = sym c.has_line.ensures ∙ c.if-has_line.true in
    does_by_log c.log.result (log_of c.args.changes.now) (log_of c.log.new.self) (tables_of c.args.self.now) (record { table = c.args.table; line = c.args.line; edit = edit.Use })
    (touch_in (tables_now c.args.self.now c.args.changes.now) c.args.table c.args.line)
    (use_done (tables_now c.args.self.now c.args.changes.now) c.args.table c.args.line kind there)
    c.log.ensures.ok c.log.ensures.err c.log.ensures.memory

pub returns-then-has_line-clause-replays : goal.returns-then-has_line-clause-replays
returns-then-has_line-clause-replays c =
    let kind : keeps_order (frame_at (tables_now c.args.self.now c.args.changes.now) c.args.table) ≡ true = ap keeps_order (frames_after c.args.table (log_of c.args.changes.now) (tables_of c.args.self.now) c.requires c.keeps_order.ensures.law) ∙ sym c.keeps_order.ensures.kind ∙ c.if-keeps_order.true in
    let there : is_some (fields_at (tables_now c.args.self.now c.args.changes.now) c.args.table c.args.line) ≡ true = sym c.has_line.ensures ∙ c.if-has_line.true in
    replays_by_log c.log.result (log_of c.args.changes.now) (log_of c.log.new.self) (tables_of c.args.self.now) (record { table = c.args.table; line = c.args.line; edit = edit.Use })
    (use_done (tables_now c.args.self.now c.args.changes.now) c.args.table c.args.line kind there).can
    c.requires c.log.ensures.ok c.log.ensures.err

pub returns-else-has_line-clause-does : goal.returns-else-has_line-clause-does
returns-else-has_line-clause-does c =
    let kind : keeps_order (frame_at (tables_now c.args.self.now c.args.changes.now) c.args.table) ≡ true = ap keeps_order (frames_after c.args.table (log_of c.args.changes.now) (tables_of c.args.self.now) c.requires c.keeps_order.ensures.law) ∙ sym c.keeps_order.ensures.kind ∙ c.if-keeps_order.true in
    let gone : is_some (fields_at (tables_now c.args.self.now c.args.changes.now) c.args.table c.args.line) ≡ false = sym c.has_line.ensures ∙ c.if-has_line.false in
    (use_absent (tables_now c.args.self.now c.args.changes.now) c.args.table c.args.line kind gone, refl)

pub returns-else-keeps_order-clause-does : goal.returns-else-keeps_order-clause-does
returns-else-keeps_order-clause-does c =
    let kind : keeps_order (frame_at (tables_now c.args.self.now c.args.changes.now) c.args.table) ≡ false = ap keeps_order (frames_after c.args.table (log_of c.args.changes.now) (tables_of c.args.self.now) c.requires c.keeps_order.ensures.law) ∙ sym c.keeps_order.ensures.kind ∙ c.if-keeps_order.false in
    use_nothing (tables_now c.args.self.now c.args.changes.now) c.args.table c.args.line kind
